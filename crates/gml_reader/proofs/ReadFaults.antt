-- A fault of what is read is none of the tokens or of the grammar.
use Rattle.std.proofs.Common.{◌≡◌, ℕ, Bool, true, false, cond, nat_le, List, [], ◌∷◌, subst, Option, Some, None, IfSome, is_some, option_map}
use Rattle.std.specs.Option.{option_or}
use Rattle.gml_lex.specs.declared.kinds.TokenKind.{TokenKind}
use Rattle.gml_lex.specs.declared.kinds.TokenKind.TheVariants as kind
use Rattle.gml_lex.specs.declared.kinds.Token.{Token}
use Rattle.topo.specs.declared.keys.Key.{Key}
use Rattle.topo.specs.declared.keys.Key.TheVariants as key
use Rattle.topo.specs.Keys.{key_name}
use Rattle.topo.specs.declared.faults.TopoFault.{TopoFault}
use Rattle.gml_reader.specs.declared.faults.Item.{Item}
use Rattle.gml_reader.specs.declared.faults.GmlFault.{GmlFault}
use Rattle.gml_reader.specs.declared.faults.GmlFault.TheVariants as fault
use Rattle.gml_reader.specs.Grammar.{Pairs}
use Rattle.gml_reader.specs.Values.{ValueTree, leaf, list, PairTree, pairs, value_at, number_in, address_of, content_of}
use Rattle.gml_reader.specs.Reading.{required_fault, optional_fault, address_kind_fault, address_value_fault, node_item_fault, edge_item_fault, is_node, is_edge, item_fault, items_fault, directed_in, directed_number_fault, directed_fault, graph_fault, fault_in, file_fault, graph_in}
use Rattle.gml_reader.specs.Texts.{IsTextOf, IsFileFault, IsFirstFault}

pub some_isnt_none : (f : GmlFault) → Some f ≡ None → ⊥
some_isnt_none f e = cc

-- a fault that neither tokens nor grammar have
abbrev IsReadFault : GmlFault → Type 0
IsReadFault (fault.Lex place) = ⊥
IsReadFault (fault.Grammar place) = ⊥
IsReadFault (fault.TooDeep place) = ⊥
IsReadFault fault.NoGraph = Unit {0}
IsReadFault (fault.Missing i k) = Unit {0}
IsReadFault (fault.Kind i k) = Unit {0}
IsReadFault (fault.BadAddress n) = Unit {0}
IsReadFault (fault.Topo f) = Unit {0}

-- there is no fault, or it is such a one
record MayBeRead (o : Option GmlFault) : Type 0 where
  fact : IfSome o IsReadFault

sure : (o : Option GmlFault) → IfSome o IsReadFault → MayBeRead o
sure o is = record { fact = is }

-- ---- parts of a first fault
-- the first of two
both : {a b : Option GmlFault} → MayBeRead a → MayBeRead b → MayBeRead (option_or a b)
both {a} {b} in_a in_b = by_cases a in_a.fact
  where
    by_cases : (o : Option GmlFault) → IfSome o IsReadFault → MayBeRead (option_or o b)
    by_cases None is = in_b
    by_cases (Some f) is = sure (Some f) is

-- one unless a test passes
unless : (b : Bool) (f : GmlFault) → IsReadFault f → MayBeRead (cond b None (Some f))
unless true f is = sure None tt
unless false f is = sure (Some f) is

-- one of two by a test
either : (b : Bool) (x y : Option GmlFault) → MayBeRead x → MayBeRead y → MayBeRead (cond b x y)
either true x y in_x in_y = in_x
either false x y in_x in_y = in_y

-- ---- the faults of what is read, from keys to files
of_required : (text : List ℕ) (i : Item) (k : Key) (found : Option ValueTree) → MayBeRead (required_fault text i k found)
of_required text i k None = sure (Some (fault.Missing i k)) tt
of_required text i k (Some v) = unless (is_some (number_in text v)) (fault.Kind i k) tt

of_optional : (text : List ℕ) (i : Item) (k : Key) (found : Option ValueTree) → MayBeRead (optional_fault text i k found)
of_optional text i k None = sure None tt
of_optional text i k (Some v) = unless (is_some (number_in text v)) (fault.Kind i k) tt

of_address_kind : (text : List ℕ) (n : ℕ) (token : Token) (k : TokenKind) → MayBeRead (address_kind_fault text n token k)
of_address_kind text n token kind.Text = unless (is_some (address_of (content_of text token))) (fault.BadAddress n) tt
of_address_kind text n token kind.Key = sure _ tt
of_address_kind text n token kind.Integer = sure _ tt
of_address_kind text n token kind.Real = sure _ tt
of_address_kind text n token kind.Left = sure _ tt
of_address_kind text n token kind.Right = sure _ tt

of_address : (text : List ℕ) (n : ℕ) (found : Option ValueTree) → MayBeRead (address_value_fault text n found)
of_address text n None = sure None tt
of_address text n (Some (leaf token)) = of_address_kind text n token token.kind
of_address text n (Some (list inner)) = sure _ tt

of_node : (text : List ℕ) (n : ℕ) (v : ValueTree) → MayBeRead (node_item_fault text n v)
unfolding node_item_fault
of_node text n (leaf token) = sure _ tt
of_node text n (list inner) = both (of_required text _ _ _) (of_address text n _)

of_edge : (text : List ℕ) (e : ℕ) (v : ValueTree) → MayBeRead (edge_item_fault text e v)
unfolding edge_item_fault
of_edge text e (leaf token) = sure _ tt
of_edge text e (list inner) =
    both (of_required text _ _ _)
    (both (of_required text _ _ _)
    (both (of_required text _ _ _) (both (of_required text _ _ _) (both (of_optional text _ _ _) (of_optional text _ _ _)))))

of_item : (text : List ℕ) (n e : ℕ) (p : PairTree) → MayBeRead (item_fault text n e p)
of_item text n e p =
    either (is_node text p) (node_item_fault text n p.value) _ (of_node text n p.value)
    (either (is_edge text p) (edge_item_fault text e p.value) None (of_edge text e p.value) (sure None tt))

of_items : (text : List ℕ) (ps : List PairTree) (n e : ℕ) → MayBeRead (items_fault text n e ps)
of_items text [] n e = sure None tt
of_items text (p ∷ ps) n e = both (of_item text n e p) (of_items text ps _ _)

of_directed : (o : Option ℕ) → MayBeRead (directed_number_fault o)
of_directed None = sure _ tt
of_directed (Some n) = unless (nat_le n 1) _ tt

of_directed_pairs : (text : List ℕ) (ps : List PairTree) → MayBeRead (directed_fault text ps)
unfolding directed_fault
of_directed_pairs text ps = of_directed (directed_in text (value_at text (key_name key.Directed) ps))

of_topo : (o : Option TopoFault) → MayBeRead (option_map fault.Topo o)
of_topo None = sure None tt
of_topo (Some f) = sure (Some (fault.Topo f)) tt

of_graph : (text : List ℕ) (ps : List PairTree) → MayBeRead (graph_fault text ps)
of_graph text ps = both (of_directed_pairs text ps) (both (of_items text ps 0 0) (of_topo _))

of_file : (text : List ℕ) (o : Option Pairs) → MayBeRead (fault_in text o)
of_file text None = sure _ tt
of_file text (Some graph) = of_graph text (pairs graph)

-- such a fault of a file is a first fault
first_of : (text : List ℕ) (f : GmlFault) → IsReadFault f → IsFileFault text f → IsFirstFault text f
first_of text (fault.Lex place) is here = absurd is
first_of text (fault.Grammar place) is here = absurd is
first_of text (fault.TooDeep place) is here = absurd is
first_of text fault.NoGraph is here = here
first_of text (fault.Missing i k) is here = here
first_of text (fault.Kind i k) is here = here
first_of text (fault.BadAddress n) is here = here
first_of text (fault.Topo f) is here = here

-- the first fault of a file is that of its text
pub first_fault_of : (text : List ℕ) (file : Pairs) (f : GmlFault) → IsTextOf text file → file_fault text file ≡ Some f
    → IsFirstFault text f
first_fault_of text file f tree here =
    first_of text f (subst MayBeRead here (of_file text (graph_in text (pairs file)))).fact (file, tree, here)
