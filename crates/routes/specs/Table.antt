-- The table that a search leaves: for each node that reaches the destination, the first arc of its least walk, with the walk's
-- weight and its number of arcs. Only neighbours are compared in it; that the walks are least follows.
use Rattle.std.specs.Prelude.{◌≡◌, ◌≢◌, ℕ, ◌+◌, ◌<◌, ◌≤◌, ◌⊎◌, List, length, Option, Some, None, slice_index_or}
use Rattle.routes.specs.declared.graph.Arc.{Arc}
use Rattle.routes.specs.declared.label.Label.{Label}
use Rattle.routes.specs.GraphView.{GraphView, IsWithinLimits}
use Rattle.routes.specs.Walk.{arc_at}

-- what the table has of a node
abbrev pub label_of : List (Option Label) → ℕ → Option Label
label_of labels v = slice_index_or labels v None

-- the label of the destination
abbrev pub home : Label
home = record { weight = 0; hops = 0; next = 0 }

-- the label that the arc e offers to its start, where its end has the label m
abbrev pub offer_of : List Arc → ℕ → Label → Label
offer_of arcs e m = record { weight = (arc_at arcs e).weight + m.weight; hops = m.hops + 1; next = e }

-- by weight, then by number of arcs
abbrev pub IsNoFarther : Label → Label → Type 0
IsNoFarther l m = (l.weight < m.weight) ⊎ ((l.weight ≡ m.weight) × (l.hops ≤ m.hops))

-- by weight, then by number of arcs, then by first arc
abbrev pub IsNoWorse : Label → Label → Type 0
IsNoWorse l m = (l.weight < m.weight)
    ⊎ ((l.weight ≡ m.weight) × ((l.hops < m.hops) ⊎ ((l.hops ≡ m.hops) × (l.next ≤ m.next))))

-- the label l of a node stands for its first arc and the label of that arc's end
pub record IsLedBy (arcs : List Arc) (label : ℕ → Option Label) (v : ℕ) (l : Label) : Type 0 where
  pub rest : Label
  pub next : l.next < length arcs
  pub from : (arc_at arcs l.next).from ≡ v
  pub to : label (arc_at arcs l.next).to ≡ Some rest
  pub is : l ≡ offer_of arcs l.next rest

-- a node has a label no worse than c
pub record HasNoWorse (label : ℕ → Option Label) (v : ℕ) (c : Label) : Type 0 where
  pub own : Label
  pub has : label v ≡ Some own
  pub below : IsNoWorse own c

-- each label stands for an arc and the label after it, and no arc offers a better one
pub record IsTable (arcs : List Arc) (destination : ℕ) (label : ℕ → Option Label) : Type 0 where
  pub at_home : label destination ≡ Some home
  pub led : (v : ℕ) (l : Label) → label v ≡ Some l → v ≢ destination → IsLedBy arcs label v l
  pub settled : (e : ℕ) (m : Label) → e < length arcs → label (arc_at arcs e).to ≡ Some m
      → HasNoWorse label (arc_at arcs e).from (offer_of arcs e m)

-- what routes keep: a graph within its limits, and a table of it that has a label or none for each node
pub record IsRoutes (g : GraphView) (labels : List (Option Label)) (destination : ℕ) : Type 0 where
  pub limits : IsWithinLimits g
  pub len : length labels ≡ g.nodes
  pub place : destination < g.nodes
  pub table : IsTable g.arcs destination (label_of labels)
