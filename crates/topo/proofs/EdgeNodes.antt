-- The numbers of the edge nodes rise, are numbers of nodes, and are as many as there are edge nodes.
use Rattle.std.proofs.Common.{◌≡◌, ◌<◌, ◌+◌, ℕ, suc, Bool, cond, List, [], ◌∷◌, length, slice_index_or, get_or, refl, sym, ◌∙◌, ap, subst, arith, add-zero}
use Rattle.std.proofs.lemmas.List.Elements.{All-filter}
use Rattle.std.proofs.lemmas.List.FromFn.{length-range_with_len, get_or-range_with_len}
use Rattle.std.proofs.lemmas.List.Kept.{IsStrictlyIncreasing-filter}
use Rattle.std.proofs.lemmas.List.Sums.{length-filter, sum_by-cons}
use Rattle.std.specs.List.{All, count_by, range_with_len}
use Rattle.std.specs.List.Sorted.{IsStrictlyIncreasing}
use Rattle.topo.specs.declared.parts.Node.{Node}
use Rattle.topo.specs.Nodes.{is_edge_node, no_node, edge_nodes_of}
use Rattle.topo.specs.Laws.{EdgeNodesInOrder}

-- numbers in a row rise
range-rises : (a n : ℕ) → IsStrictlyIncreasing (range_with_len a n)
range-rises a n k within =
    let next : k + 1 < n = omega (arith, within, length-range_with_len a n) in
    omega (arith, get_or-range_with_len a n k 0 (omega arith), get_or-range_with_len a n (k + 1) 0 next)

-- and those from 0 on are below their number
range-below : (n : ℕ) → All (λ i. i < n) (range_with_len 0 n)
range-below n i d within =
    let below : i < n = omega (arith, within, length-range_with_len 0 n) in
    subst (λ v. v < n) (sym (get_or-range_with_len 0 n i d below)) (omega arith)

-- as many numbers pass as elements do, where a number passes if and only if the element that it numbers does
count_by-range : {X : Type 0} (passes : ℕ → Bool) (p : X → Bool) (d : X) (a : ℕ) (xs : List X)
    → ((i : ℕ) → i < length xs → passes (a + i) ≡ p (get_or xs i d))
    → count_by passes (range_with_len a (length xs)) ≡ count_by p xs
count_by-range passes p d a [] each = refl
count_by-range passes p d a (x ∷ xs) each =
    let first : passes a ≡ p x = ap passes (sym (add-zero a)) ∙ each 0 (omega arith) in
    let later : count_by passes (range_with_len (a + 1) (length xs)) ≡ count_by p xs =
    count_by-range passes p d (a + 1) xs
    (λ i within. let next : (a + 1) + i ≡ a + suc i = omega arith in ap passes next ∙ each (suc i) (omega arith)) in
    sum_by-cons (λ i. cond (passes i) 1 0) a (range_with_len (a + 1) (length xs))
    ∙ ap (λ b. cond b 1 0 + count_by passes (range_with_len (a + 1) (length xs))) first
    ∙ ap (λ n. cond (p x) 1 0 + n) later
    ∙ sym (sum_by-cons (λ y. cond (p y) 1 0) x xs)

-- whether node n is an edge node
abbrev is_edge_node_at : List Node → ℕ → Bool
is_edge_node_at nodes n = is_edge_node (slice_index_or nodes n no_node)

length-edge_nodes_of : (nodes : List Node) → length (edge_nodes_of nodes) ≡ count_by is_edge_node nodes
length-edge_nodes_of nodes =
    length-filter (is_edge_node_at nodes) (range_with_len 0 (length nodes))
    ∙ count_by-range (is_edge_node_at nodes) is_edge_node no_node 0 nodes
    (λ i within. let same : 0 + i ≡ i = omega arith in ap (is_edge_node_at nodes) same)

pub edge_nodes_in_order : EdgeNodesInOrder
edge_nodes_in_order t is = record {
  rising = IsStrictlyIncreasing-filter (is_edge_node_at t.nodes) _ (range-rises 0 (length t.nodes));
  nodes = All-filter (is_edge_node_at t.nodes) (λ n. n < length t.nodes) _ (range-below (length t.nodes));
  few = omega (arith, length-edge_nodes_of t.nodes, is.few_edge_nodes);
}
