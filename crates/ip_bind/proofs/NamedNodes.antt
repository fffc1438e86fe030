-- In a topology an address finds the one node that has it.
use Rattle.std.proofs.Common.{◌≡◌, ◌≢◌, ◌<◌, ◌==◌, ℕ, true, false, List, length, get_or, refl, sym, ◌∙◌, ap, arith, Option, Some, None, is_some, slice_get}
use Rattle.std.proofs.lemmas.Bool.{eq-eqb, false≢true}
use Rattle.std.proofs.lemmas.List.Folds.{list_any_at}
use Rattle.std.proofs.lemmas.List.Quantifiers.{position-Some}
use Rattle.std.proofs.lemmas.Option.{slice_get-get_or, slice_get_within, get_or_from_slice_get}
use Rattle.std.specs.List.{AllPairs}
use Rattle.std.specs.Option.{option_and_then, option_map_or}
use Rattle.topo.specs.declared.parts.Node.{Node}
use Rattle.topo.specs.Nodes.{has_address, no_node}
use Rattle.topo.specs.Topologies.{DifferInAddress}
use Rattle.topo.proofs.Firsts.{is_some-position}
use Rattle.topo.proofs.SeenIds.{address_is}
use Rattle.ip_bind.specs.Books.{node_with_address}
use Rattle.ip_bind.specs.Laws.{address_of_node, AddressNamesNode, AddressOfNoNode}

-- the node that is found has the address
found_has : (nodes : List Node) (a n : ℕ) → node_with_address nodes a ≡ Some n → address_of_node nodes n ≡ Some a
found_has nodes a n e =
    let at_n = position-Some (has_address a) nodes n no_node e in
    ap (option_and_then (λ node. node.address)) (slice_get-get_or nodes n no_node at_n.0) ∙ address_is _ a at_n.1

some_node : (nodes : List Node) (a n : ℕ) (o : Option Node) → slice_get nodes n ≡ o → option_and_then (λ node. node.address) o ≡ Some a
    → (n < length nodes) × (let node = get_or nodes n no_node in node.address ≡ Some a)
some_node nodes a n None there e = cc
some_node nodes a n (Some node) there e =
    (slice_get_within nodes n node there, ap (λ x. let v : Node = x in v.address) (get_or_from_slice_get nodes n node no_node there) ∙ e)

-- a node that has an address is among those that a search for it goes through
none_missed : (nodes : List Node) (a n : ℕ) → n < length nodes → let node = get_or nodes n no_node in node.address ≡ Some a
    → node_with_address nodes a ≡ None → ⊥
none_missed nodes a n within has none =
    let passes : has_address a (get_or nodes n no_node) ≡ true = ap (λ o. option_map_or (λ x. x == a) o false) has ∙ eq-eqb a a refl in
    false≢true (sym (ap is_some none) ∙ is_some-position (has_address a) nodes ∙ list_any_at (has_address a) nodes n no_node within passes)

-- of two nodes one is before the other, so no other node is found than the one that has the address
only_one : (nodes : List Node) (a n : ℕ) → AllPairs DifferInAddress nodes → n < length nodes
    → let node = get_or nodes n no_node in node.address ≡ Some a → (found : Option ℕ) → node_with_address nodes a ≡ found → found ≡ Some n
only_one nodes a n differ within has None e = absurd (none_missed nodes a n within has e)
only_one nodes a n differ within has (Some i) e =
    let at_i = position-Some (has_address a) nodes i no_node e in
    let found = address_is _ a at_i.1 in
    ap Some (same i n (λ before. differ i n no_node before within a found has) (λ after. differ n i no_node after at_i.0 a has found))
  where
    same : (i n : ℕ) → (i < n → ⊥) → (n < i → ⊥) → i ≡ n
    same i n not_before not_after = omega arith

pub address_names_node : AddressNamesNode
address_names_node t is a n =
    (found_has t.nodes a n, λ e. let there = some_node t.nodes a n _ refl e in only_one t.nodes a n is.addresses there.0 there.1 _ refl)

none_has : (nodes : List Node) (a : ℕ) → ((n : ℕ) → address_of_node nodes n ≢ Some a) → (found : Option ℕ)
    → node_with_address nodes a ≡ found → found ≡ None
none_has nodes a none None e = refl
none_has nodes a none (Some n) e = absurd (none n (found_has nodes a n e))

pub address_of_no_node : AddressOfNoNode
address_of_no_node nodes a =
    (λ e n has. let there = some_node nodes a n _ refl has in none_missed nodes a n there.0 there.1 e, λ none. none_has nodes a none _ refl)
