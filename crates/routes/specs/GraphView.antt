-- A directed graph as contracts see it.
use Rattle.std.specs.Prelude.{ℕ, ◌<◌, ◌≤◌, List, length}
use Rattle.std.specs.List.{All}
use Rattle.mn_base.specs.declared.limits.TheConstants.{NODES_MAX, ARCS_MAX, PIPE_LATENCY_US_MAX}
use Rattle.routes.specs.declared.graph.Arc.{Arc}

-- nodes are numbered from 0, arcs by their index in the list; several may join the same nodes
pub record GraphView : Type 0 where
  pub nodes : ℕ
  pub arcs : List Arc

-- both ends are nodes, and the weight is at most the latency of a pipe, so that a sum over all nodes fits
pub record IsArcAmong (nodes : ℕ) (arc : Arc) : Type 0 where
  pub from : arc.from < nodes
  pub to : arc.to < nodes
  pub weight : arc.weight ≤ PIPE_LATENCY_US_MAX

-- the limits of a graph
pub record IsWithinLimits (g : GraphView) : Type 0 where
  pub nodes : g.nodes ≤ NODES_MAX
  pub count : length g.arcs ≤ ARCS_MAX
  pub arcs : All (IsArcAmong g.nodes) g.arcs
