-- What follows of every least walk from the definitions alone.
use Rattle.std.specs.Prelude.{◌≡◌, ◌≢◌, ℕ, ◌<◌, List, length, All, AllPairs}
use Rattle.routes.specs.declared.graph.Arc.{Arc}
use Rattle.routes.specs.GraphView.{IsArcAmong}
use Rattle.routes.specs.Walk.{nodes_of}
use Rattle.routes.specs.LeastWalk.{IsLeastWalk}

-- a least walk meets no node twice
abbrev pub LeastWalksMeetNoNodeTwice : Type 0
LeastWalksMeetNoNodeTwice = (arcs : List Arc) (a b : ℕ) (es : List ℕ)
    → IsLeastWalk arcs a b es → AllPairs (λ v w. v ≢ w) (nodes_of arcs a es)

-- a least walk has no arc twice
abbrev pub LeastWalksHaveNoArcTwice : Type 0
LeastWalksHaveNoArcTwice = (arcs : List Arc) (a b : ℕ) (es : List ℕ)
    → IsLeastWalk arcs a b es → AllPairs (λ e f. e ≢ f) es

-- a least walk has fewer arcs than the graph has nodes
abbrev pub LeastWalksAreShort : Type 0
LeastWalksAreShort = (nodes : ℕ) (arcs : List Arc) (a b : ℕ) (es : List ℕ)
    → All (IsArcAmong nodes) arcs → a < nodes → IsLeastWalk arcs a b es → length es < nodes

-- between two nodes there is at most one least walk
abbrev pub LeastWalksAreUnique : Type 0
LeastWalksAreUnique = (arcs : List Arc) (a b : ℕ) (es fs : List ℕ)
    → IsLeastWalk arcs a b es → IsLeastWalk arcs a b fs → es ≡ fs
