-- Walks in a directed graph: lists of arc numbers, each the index of its arc in the graph's list of arcs.
use Rattle.std.specs.Prelude.{◌≡◌, ℕ, ◌+◌, ◌<◌, List, [], ◌∷◌, length, slice_index_or}
use Rattle.routes.specs.declared.graph.Arc.{Arc}

-- what stands at numbers that no arc has
abbrev pub no_arc : Arc
no_arc = record { from = 0; to = 0; weight = 0 }

-- the arc of a number
abbrev pub arc_at : List Arc → ℕ → Arc
arc_at arcs e = slice_index_or arcs e no_arc

-- arcs that join end to start, the first from a, the last to b; from a node to itself the empty list is one
abbrev pub IsWalk : List Arc → ℕ → ℕ → List ℕ → Type 0
IsWalk arcs a b [] = a ≡ b
IsWalk arcs a b (e ∷ es) = (e < length arcs) × ((arc_at arcs e).from ≡ a) × IsWalk arcs (arc_at arcs e).to b es

-- the sum of the weights
abbrev pub weight_of : List Arc → List ℕ → ℕ
weight_of arcs [] = 0
weight_of arcs (e ∷ es) = (arc_at arcs e).weight + weight_of arcs es

-- the nodes that a walk from a meets, in order, a first
abbrev pub nodes_of : List Arc → ℕ → List ℕ → List ℕ
nodes_of arcs a [] = a ∷ []
nodes_of arcs a (e ∷ es) = a ∷ nodes_of arcs (arc_at arcs e).to es
