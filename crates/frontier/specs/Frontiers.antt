-- Frontiers: the edge nodes, then step by step the nodes that links join to the frontier before.
use Rattle.std.specs.Prelude.{ℕ, zero, suc, not, ◌&&◌, List, [], ◌∷◌, ◌++◌, length, filter, slice_index_or}
use Rattle.std.specs.List.{range_with_len}
use Rattle.topo.specs.Nodes.{edge_nodes_of}
use Rattle.topo.specs.TopologyView.{TopologyView}
use Rattle.frontier.specs.NodeSets.{is_in, is_in_one, is_beside}

-- the nodes in none of the lists `before` that a link in either direction joins to a node of `last`, in number order
abbrev pub frontier_after : TopologyView → List (List ℕ) → List ℕ → List ℕ
frontier_after t before last =
    filter (λ v. not (is_in_one v before) && is_beside t.links (λ u. is_in u last) v) (range_with_len 0 (length t.nodes))

-- F_1 to F_(k+1): the first has the edge nodes, each further one comes after those before it
unfoldable pub frontiers_of : TopologyView → ℕ → List (List ℕ)
frontiers_of t zero = edge_nodes_of t.nodes ∷ []
frontiers_of t (suc k) = frontiers_of t k ++ frontier_after t (frontiers_of t k) (slice_index_or (frontiers_of t k) k []) ∷ []
