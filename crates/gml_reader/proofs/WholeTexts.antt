-- From a file's tokens to what its text reads to.
use Rattle.std.proofs.Common.{◌≡◌, ◌+◌, ℕ, List, ◌∷◌, ◌++◌, length, refl, ◌∙◌, ap, subst, arith, Option, Some, None, Result, Ok, Err, IfOk, IfErr, length-append}
use Rattle.std.proofs.lemmas.List.{get_or_append_left, get_or-append-add}
use Rattle.std.proofs.lemmas.List.Elements.{All-head, All-tail}
use Rattle.std.specs.Borrow.{Bor}
use Rattle.std.specs.List.{All}
use Rattle.mn_base.specs.declared.refusal.Refusal.{Refusal}
use Rattle.mn_base.specs.declared.refusal.Refusal.TheVariants as refusal
use Rattle.mn_base.specs.Refused.{IfFault}
use Rattle.topo.specs.TopologyView.{TopologyView}
use Rattle.gml_lex.specs.declared.kinds.Token.{Token}
use Rattle.gml_reader.specs.declared.faults.GmlFault.{GmlFault}
use Rattle.gml_reader.specs.declared.faults.GmlFault.TheVariants as fault
use Rattle.gml_lex.specs.Tokens.{AreTokens}
use Rattle.gml_reader.specs.Grammar.{Pairs, done, plain, nested, spelled, IsList, IsFile}
use Rattle.gml_reader.specs.Places.{IsShallow}
use Rattle.gml_reader.specs.Values.{pairs}
use Rattle.gml_reader.specs.Walk.{IsListIn}
use Rattle.gml_reader.specs.Reading.{graph_in, fault_in}
use Rattle.gml_reader.specs.ReadGraph.{IsGraph, IsGraphRead}
use Rattle.gml_reader.specs.Texts.{IsTextOf, Reads, IsFileFault, IsFirstFault}
use Rattle.gml_lex.proofs.Lexed.{IsSpan}
use Rattle.gml_reader.proofs.ReadFaults.{first_fault_of}

-- the spans of a list hold in its front and its back
in_front : (len : ℕ) (xs ys : List Token) → All (IsSpan len) (xs ++ ys) → All (IsSpan len) xs
in_front len xs ys all k d within =
    subst (IsSpan len) (get_or_append_left xs ys d k within) (all k d (omega (arith, within, length-append xs ys)))

in_back : (len : ℕ) (xs ys : List Token) → All (IsSpan len) (xs ++ ys) → All (IsSpan len) ys
in_back len xs ys all k d within =
    subst (IsSpan len) (get_or-append-add xs ys k d) (all (length xs + k) d (omega (arith, within, length-append xs ys)))

-- keys and values end where tokens do
list_in_spans : (len : ℕ) (t : Pairs) → IsList t → All (IsSpan len) (spelled t) → IsListIn len t
list_in_spans len done l all = tt
list_in_spans len (plain key value more) l all =
    let rest = All-tail (IsSpan len) key (value ∷ spelled more) all in
    record {
      is_key = l.is_key;
      is_plain = l.is_plain;
      key_within = (All-head (IsSpan len) key (value ∷ spelled more) all).1;
      value_within = (All-head (IsSpan len) value (spelled more) rest).1;
      more = list_in_spans len more l.more (All-tail (IsSpan len) value (spelled more) rest);
    }
list_in_spans len (nested key left inner right more) l all =
    let later = spelled inner ++ (right ∷ spelled more) in
    let rest = All-tail (IsSpan len) left later (All-tail (IsSpan len) key (left ∷ later) all) in
    record {
      is_key = l.is_key;
      opens = l.opens;
      key_within = (All-head (IsSpan len) key (left ∷ later) all).1;
      inner = list_in_spans len inner l.inner (in_front len (spelled inner) (right ∷ spelled more) rest);
      closes = l.closes;
      more = list_in_spans len more l.more (
          All-tail (IsSpan len) right (spelled more) (in_back len (spelled inner) (right ∷ spelled more) rest));
    }

-- a file of the text's tokens is the text's
pub text_of : (text : List ℕ) (tokens : List Token) → AreTokens text tokens → (f : IsFile tokens) → IsShallow tokens → IsTextOf text f.file
text_of text tokens are f shallow = record {
  tokens = tokens;
  are = are;
  list = f.list;
  spelled_is = f.spelled_is;
  shallow = shallow;
}

-- the file's keys and values end within the text
pub list_in_text : (len : ℕ) (t : Pairs) (tokens : List Token) → IsList t → tokens ≡ spelled t → All (IsSpan len) tokens → IsListIn len t
list_in_text len t tokens l same all = list_in_spans len t l (subst (All (IsSpan len)) same all)

-- no graph was found: there is none
no_graph : (len : ℕ) (o : Option Pairs) → IsGraph len o None → o ≡ None
no_graph len None found = refl
no_graph len (Some g) found = absurd found

-- the graph that was found
pub record IsGraphAt (len : ℕ) (o : Option Pairs) (tokens : List Token) : Type 0 where
  pub graph : Pairs
  pub is : o ≡ Some graph
  pub list : IsListIn len graph
  pub tokens_are : tokens ≡ spelled graph

pub graph_at : (len : ℕ) (o : Option Pairs) (s : Bor (List Token)) → IsGraph len o (Some s) → IsGraphAt len o s.now
graph_at len None s found = absurd found
graph_at len (Some g) s found = record { graph = g; is = refl; list = found.0; tokens_are = found.1 }

-- a file without a graph
pub without_graph : (text : List ℕ) (file : Pairs) → IsTextOf text file → IsGraph (length text) (graph_in text (pairs file)) None
    → IsFileFault text fault.NoGraph
without_graph text file tree found = (file, tree, ap (fault_in text) (no_graph (length text) (graph_in text (pairs file)) found))

-- what was read of the graph is what the text reads to
pub reads_of : (text : List ℕ) (file : Pairs) (tokens : List Token) (r : Result TopologyView (Refusal GmlFault)) → IsTextOf text file
    → (g : IsGraphAt (length text) (graph_in text (pairs file)) tokens) → IsGraphRead text (pairs g.graph) r → IfOk r (Reads text)
reads_of text file tokens (Ok t) tree g read = record {
  file = file;
  is_text = tree;
  no_fault = ap (fault_in text) g.is ∙ read.0;
  graph = g.graph;
  graph_is = g.is;
  read = read.1;
}
reads_of text file tokens (Err e) tree g read = tt

-- and its fault is the first of the text
pub fault_of : (text : List ℕ) (file : Pairs) (tokens : List Token) (r : Result TopologyView (Refusal GmlFault)) → IsTextOf text file
    → (g : IsGraphAt (length text) (graph_in text (pairs file)) tokens) → IsGraphRead text (pairs g.graph) r
    → IfErr r (λ e. IfFault e (IsFirstFault text))
fault_of text file tokens (Ok t) tree g read = tt
fault_of text file tokens (Err refusal.NoMemory) tree g read = tt
fault_of text file tokens (Err (refusal.Fault f)) tree g read = first_fault_of text file f tree (ap (fault_in text) g.is ∙ read)
