-- The nodes by their addresses, node by node, and what a look-up in a tree of them finds.
use Rattle.std.proofs.Common.{◌≡◌, ◌<◌, ◌+◌, ◌==◌, ℕ, true, false, cond, List, [], ◌∷◌, length, take, get_or, refl, sym, ◌∙◌, ap, arith, Option, Some, None, length-take}
use Rattle.std.proofs.lemmas.Bool.Decides.{nat_tests}
use Rattle.std.proofs.lemmas.List.{take_more, length-take-le, get_or-take}
use Rattle.std.proofs.lemmas.List.Quantifiers.{position-Some}
use Rattle.std.specs.BTreeMap as tree
use Rattle.std.specs.Cmp.{nat_cmp_total}
use Rattle.std.specs.FinMap as map
use Rattle.std.specs.List.{AllPairs}
use Rattle.std.specs.Map.{lookup}
use Rattle.std.specs.Option.{option_or, option_map_or}
use Rattle.std.specs.Ordering.{nat_cmp, is_eq}
use Rattle.topo.specs.declared.parts.Node.{Node}
use Rattle.topo.specs.Nodes.{has_address, no_node}
use Rattle.topo.specs.Topologies.{DifferInAddress}
use Rattle.topo.proofs.Firsts.{position_push}
use Rattle.topo.proofs.SeenIds.{written, address_is}
use Rattle.ip_bind.specs.Books.{node_with_address}

lookup-find : (q : ℕ) (entries : List (ℕ × ℕ)) → lookup (tree.is_at (nat_cmp q)) entries ≡ map.find nat_cmp q entries
lookup-find q [] = refl
lookup-find q (e ∷ entries) = ap (cond (is_eq (nat_cmp q e.0)) (Some e.1)) (lookup-find q entries)

-- the map of a tree's entries finds what the tree finds
pub get-entries : (m : tree.BTreeMap ℕ ℕ) (q : ℕ) → map.get (map.from_entries {R = nat_cmp} m.entries) q ≡ tree.get nat_cmp m q
get-entries m q = map.get-from_entries nat_cmp_total m.entries q ∙ sym (lookup-find q m.entries)

node_with_address_more : (nodes : List Node) (n q : ℕ) → n < length nodes
    → node_with_address (take (n + 1) nodes) q ≡ option_or (node_with_address (take n nodes) q)
    (cond (has_address q (get_or nodes n no_node)) (Some n) None)
node_with_address_more nodes n q within =
    ap (λ xs. node_with_address xs q) (take_more nodes n no_node within)
    ∙ position_push (has_address q) (take n nodes) (get_or nodes n no_node)
    ∙ ap (λ m. option_or (node_with_address (take n nodes) q) (cond (has_address q (get_or nodes n no_node)) (Some m) None))
    (length-take-le n nodes (omega arith))

or_none : (o : Option ℕ) → option_or o None ≡ o
or_none None = refl
or_none (Some x) = refl

-- a node with no address changes nothing
pub node_skipped : (nodes : List Node) (n q : ℕ) → n < length nodes → let node = get_or nodes n no_node in node.address ≡ None
    → node_with_address (take n nodes) q ≡ node_with_address (take (n + 1) nodes) q
node_skipped nodes n q within none =
    let has_not : has_address q (get_or nodes n no_node) ≡ false = ap (λ o. option_map_or (λ a. a == q) o false) none in
    sym (node_with_address_more nodes n q within
    ∙ ap (λ b. option_or (node_with_address (take n nodes) q) (cond b (Some n) None)) has_not
    ∙ or_none _)

-- no earlier node has the address of node n, since addresses differ
not_earlier : (nodes : List Node) (n a : ℕ) → AllPairs DifferInAddress nodes → n < length nodes
    → let node = get_or nodes n no_node in node.address ≡ Some a → (found : Option ℕ) → node_with_address (take n nodes) a ≡ found
    → found ≡ None
not_earlier nodes n a differ within has None e = refl
not_earlier nodes n a differ within has (Some i) e =
    let at_i = position-Some (has_address a) (take n nodes) i no_node e in
    let before : i < n = omega (arith, length-take n nodes, at_i.0) in
    let earlier : has_address a (get_or nodes i no_node) ≡ true =
    ap (has_address a) (sym (get_or-take n nodes i no_node before)) ∙ at_i.1 in
    absurd (differ i n no_node before within a (address_is _ a earlier) has)

-- node n is written at its address
pub node_written : (nodes : List Node) (n a q : ℕ) {before now : Option ℕ} → AllPairs DifferInAddress nodes → n < length nodes
    → let node = get_or nodes n no_node in node.address ≡ Some a → before ≡ node_with_address (take n nodes) q
    → now ≡ cond (is_eq (nat_cmp a q)) (Some n) before → now ≡ node_with_address (take (n + 1) nodes) q
node_written nodes n a q {before} {now} differ within has so_far changed =
    let test : is_eq (nat_cmp a q) ≡ (a == q) = grind (arith, nat_tests) in
    let has_it : has_address q (get_or nodes n no_node) ≡ (a == q) = ap (λ o. option_map_or (λ x. x == q) o false) has in
    let new : (a == q) ≡ true → before ≡ None = λ e.
    let same : a ≡ q = grind (arith, nat_tests, e) in
    so_far ∙ not_earlier nodes n q differ within (has ∙ ap Some same) _ refl in
    written (a == q) n before now (changed ∙ ap (λ b. cond b (Some n) before) test) new
    ∙ ap (λ o. option_or o (cond (a == q) (Some n) None)) so_far
    ∙ ap (λ b. option_or (node_with_address (take n nodes) q) (cond b (Some n) None)) (sym has_it)
    ∙ sym (node_with_address_more nodes n q within)
