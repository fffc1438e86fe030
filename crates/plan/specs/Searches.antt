-- Searches of a graph: for each destination that was asked for, its routes.
use Rattle.std.specs.Prelude.{◌≡◌, ℕ, List, length, Option, Some, Result, Ok, Err, slice_get, Vec}
use Rattle.mn_base.specs.declared.causes.Unbound.{Unbound}
use Rattle.routes.specs.declared.graph.Arc.{Arc}
use Rattle.routes.specs.GraphView.{GraphView}
use Rattle.routes.specs.RoutesView.{RoutesView}
use Rattle.plan.specs.Binding.{IsRouted}

-- there is room for the routes to each node, and those that are there are of the graph and to that node
pub record AreSearches (graph : GraphView) (found : List (Option RoutesView)) : Type 0 where
  pub len : length found ≡ graph.nodes
  pub of_graph : (v : ℕ) (r : RoutesView) → slice_get found v ≡ Some (Some r) → r.graph ≡ graph
  pub toward : (v : ℕ) (r : RoutesView) → slice_get found v ≡ Some (Some r) → r.destination ≡ v

-- the arcs of the route, or why there is none
abbrev pub FindsRoute : {A : Type 0} → List Arc → ℕ → ℕ → Result (Vec ℕ A) Unbound → Type 0
FindsRoute arcs source destination (Ok route) = IsRouted arcs source destination (Ok route.items)
FindsRoute arcs source destination (Err cause) = IsRouted arcs source destination (Err cause)
