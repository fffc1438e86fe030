-- A text reads to one topology or has one first fault, and not both.
use Rattle.std.proofs.Common.{◌≡◌, ◌⊎◌, ℕ, List, length, refl, sym, ◌∙◌, ap, subst, inl, inr, Option, Some, Result, Ok, Err, IfOk, IfErr, slice_get, option_map}
use Rattle.std.proofs.lemmas.Option.{same_Some}
use Rattle.mn_base.specs.declared.refusal.Refusal.{Refusal}
use Rattle.mn_base.specs.declared.refusal.Refusal.TheVariants as refusal
use Rattle.mn_base.specs.Refused.{IfFault, Gives, Refuses}
use Rattle.topo.specs.TopologyView.{TopologyView}
use Rattle.gml_lex.specs.declared.kinds.Token.{Token}
use Rattle.gml_lex.specs.Tokens.{AreTokens, IsLexFault}
use Rattle.gml_lex.proofs.OneReading as lex
use Rattle.gml_reader.specs.declared.faults.GmlFault.{GmlFault}
use Rattle.gml_reader.specs.declared.faults.GmlFault.TheVariants as fault
use Rattle.gml_reader.specs.declared.grammar.Misplaced.{Misplaced}
use Rattle.gml_reader.specs.declared.grammar.Misplaced.TheVariants.{Bad, Deep, Cut}
use Rattle.gml_reader.specs.Grammar.{Pairs, IsFile}
use Rattle.gml_reader.specs.Places.{IsMisplaced}
use Rattle.gml_reader.specs.Values.{pairs}
use Rattle.gml_reader.specs.Reading.{graph_in, file_fault, graph_topology}
use Rattle.gml_reader.specs.Texts.{IsTextOf, Reads, StartsAt, IsFileFault, IsFirstFault}
use Rattle.gml_reader.specs.Laws.{NeverBoth, OneReading, OneFault}
use Rattle.gml_reader.proofs.ReadFaults.{some_isnt_none}
use Rattle.gml_reader.proofs.OneTree.{one_tree}
use Rattle.gml_reader.proofs.Misplacements.{one_misplaced, not_misplaced}

-- ---- a misplaced token and its fault
-- the fault that says that a token is misplaced, with the token's place in the text
abbrev told_at : List ℕ → List Token → Misplaced → Option GmlFault
told_at text tokens (Bad at) = option_map (λ t. fault.Grammar t.start) (slice_get tokens at)
told_at text tokens (Deep at) = option_map (λ t. fault.TooDeep t.start) (slice_get tokens at)
told_at text tokens Cut = Some (fault.Grammar (length text))

-- the text's tokens are misplaced there, and this is the fault that says so
record Misplacement (text : List ℕ) (f : GmlFault) : Type 0 where
  tokens : List Token
  are : AreTokens text tokens
  misplaced : Misplaced
  is : IsMisplaced tokens misplaced
  told : told_at text tokens misplaced ≡ Some f

grammar_told : (tokens : List Token) (at place : ℕ) → StartsAt tokens at place
    → option_map (λ t. fault.Grammar t.start) (slice_get tokens at) ≡ Some (fault.Grammar place)
grammar_told tokens at place starts = ap (option_map (λ t. fault.Grammar t.start)) starts.1 ∙ ap (λ n. Some (fault.Grammar n)) starts.2

deep_told : (tokens : List Token) (at place : ℕ) → StartsAt tokens at place
    → option_map (λ t. fault.TooDeep t.start) (slice_get tokens at) ≡ Some (fault.TooDeep place)
deep_told tokens at place starts = ap (option_map (λ t. fault.TooDeep t.start)) starts.1 ∙ ap (λ n. Some (fault.TooDeep n)) starts.2

-- ---- the three places of faults: tokens, grammar, what is read
-- a first fault is one of the tokens, of the grammar or of what is read
abbrev Seen : List ℕ → GmlFault → Type 0
Seen text f = ((place : ℕ) × (f ≡ fault.Lex place) × IsLexFault text place) ⊎ (Misplacement text f ⊎ IsFileFault text f)

seen : (text : List ℕ) (f : GmlFault) → IsFirstFault text f → Seen text f
seen text (fault.Lex place) is = inl (place, refl, is)
seen text (fault.Grammar place) is =
    inr (inl (elim is.where_is [
      | inl bad ↦ record
          { tokens = is.tokens; are = is.are; misplaced = Bad bad.0; is = bad.1; told = grammar_told is.tokens bad.0 place bad.2 }
      | inr cut ↦ record
          { tokens = is.tokens; are = is.are; misplaced = Cut; is = cut.0; told = ap (λ n. Some (fault.Grammar n)) (sym cut.1) }
    ]))
seen text (fault.TooDeep place) is =
    inr
    (inl
    (record
    { tokens = is.tokens; are = is.are; misplaced = Deep is.at; is = is.deep; told = deep_told is.tokens is.at place is.starts }))
seen text fault.NoGraph is = inr (inr is)
seen text (fault.Missing i k) is = inr (inr is)
seen text (fault.Kind i k) is = inr (inr is)
seen text (fault.BadAddress n) is = inr (inr is)
seen text (fault.Topo f) is = inr (inr is)

-- ---- one answer
file_of_text : (text : List ℕ) (file : Pairs) (t : IsTextOf text file) → IsFile t.tokens
file_of_text text file t = record { file = file; list = t.list; spelled_is = t.spelled_is }

-- tokens are those of one text, and spell one tree
one_file : (text : List ℕ) (file other : Pairs) → IsTextOf text file → IsTextOf text other → file ≡ other
one_file text file other a b =
    one_tree file other a.list b.list (sym a.spelled_is ∙ lex.one_reading text a.tokens b.tokens a.are b.are ∙ b.spelled_is)

-- tokens of a file aren't misplaced
file_or_misplaced : (text : List ℕ) (file : Pairs) (f : GmlFault) → IsTextOf text file → Misplacement text f → ⊥
file_or_misplaced text file f t m =
    not_misplaced t.tokens m.misplaced (file_of_text text file t) t.shallow
    (subst (λ ts. IsMisplaced ts m.misplaced) (lex.one_reading text m.tokens t.tokens m.are t.are) m.is)

-- tokens are misplaced at one place
same_misplaced : (text : List ℕ) (f g : GmlFault) → Misplacement text f → Misplacement text g → f ≡ g
same_misplaced text f g a b =
    let tokens : a.tokens ≡ b.tokens = lex.one_reading text a.tokens b.tokens a.are b.are in
    let same : a.misplaced ≡ b.misplaced =
    one_misplaced b.tokens a.misplaced b.misplaced (subst (λ ts. IsMisplaced ts a.misplaced) tokens a.is) b.is in
    same_Some f g (sym a.told ∙ ap (λ ts. told_at text ts a.misplaced) tokens ∙ ap (told_at text b.tokens) same ∙ b.told)

-- a file has one first fault
same_file_fault : (text : List ℕ) (f g : GmlFault) → IsFileFault text f → IsFileFault text g → f ≡ g
same_file_fault text f g a b =
    let file : a.0 ≡ b.0 = one_file text a.0 b.0 a.1 b.1 in
    same_Some f g (sym a.2 ∙ ap (file_fault text) file ∙ b.2)

pub one_fault : OneFault
one_fault text f g a b =
    elim (seen text f a) [
      | inl here ↦ elim (seen text g b) [
        | inl there ↦ here.1 ∙ ap fault.Lex (lex.one_fault text here.0 there.0 here.2 there.2) ∙ sym there.1
        | inr later ↦ elim later [
          | inl m ↦ absurd (lex.never_both text m.tokens here.0 m.are here.2)
          | inr read ↦ absurd (lex.never_both text read.1.tokens here.0 read.1.are here.2)
        ]
      ]
      | inr behind ↦ elim behind [
        | inl m ↦ elim (seen text g b) [
          | inl there ↦ absurd (lex.never_both text m.tokens there.0 m.are there.2)
          | inr later ↦ elim later [
            | inl n ↦ same_misplaced text f g m n
            | inr read ↦ absurd (file_or_misplaced text read.0 f read.1 m)
          ]
        ]
        | inr read ↦ elim (seen text g b) [
          | inl there ↦ absurd (lex.never_both text read.1.tokens there.0 read.1.are there.2)
          | inr later ↦ elim later [
            | inl n ↦ absurd (file_or_misplaced text read.0 g read.1 n)
            | inr other ↦ same_file_fault text f g read other
          ]
        ]
      ]
    ]

pub never_both : NeverBoth
never_both text topology f r is =
    elim (seen text f is) [
      | inl here ↦ lex.never_both text r.is_text.tokens here.0 r.is_text.are here.2
      | inr behind ↦ elim behind [
        | inl m ↦ file_or_misplaced text r.file f r.is_text m
        | inr read ↦ some_isnt_none f (sym read.2 ∙ ap (file_fault text) (one_file text read.0 r.file read.1 r.is_text) ∙ r.no_fault)
      ]
    ]

pub one_reading : OneReading
one_reading text topology other a b =
    let file : a.file ≡ b.file = one_file text a.file b.file a.is_text b.is_text in
    let graph : a.graph ≡ b.graph = same_Some a.graph b.graph (sym a.graph_is ∙ ap (λ t. graph_in text (pairs t)) file ∙ b.graph_is) in
    a.read ∙ ap (λ t. graph_topology text (pairs t)) graph ∙ sym b.read

-- ---- an answer is the only one
pub gives_topology : (text : List ℕ) (r : Result TopologyView (Refusal GmlFault)) (topology : TopologyView) → IfOk r (Reads text)
    → IfErr r (λ e. IfFault e (IsFirstFault text)) → Reads text topology → Gives topology r
gives_topology text (Ok given) topology read told is = one_reading text given topology read is
gives_topology text (Err refusal.NoMemory) topology read told is = tt
gives_topology text (Err (refusal.Fault f)) topology read told is = never_both text topology f is told

pub gives_fault : (text : List ℕ) (r : Result TopologyView (Refusal GmlFault)) (f : GmlFault) → IfOk r (Reads text)
    → IfErr r (λ e. IfFault e (IsFirstFault text)) → IsFirstFault text f → Refuses f r
gives_fault text (Ok given) f read told is = never_both text given f read is
gives_fault text (Err refusal.NoMemory) f read told is = tt
gives_fault text (Err (refusal.Fault g)) f read told is = one_fault text g f told is
