-- What a packet is bound to: two edge nodes and the least route between them, or the first cause why it has none.
use Rattle.std.specs.Prelude.{◌≡◌, ◌⊎◌, ℕ, ◌<◌, ◌≤◌, List, length, Option, Some, None, Result, Ok, Err}
use Rattle.mn_base.specs.declared.limits.TheConstants.{ROUTE_PIPES_MAX}
use Rattle.mn_base.specs.declared.causes.Unbound.{Unbound}
use Rattle.mn_base.specs.declared.causes.Unbound.TheVariants.{Short, NotIpv4, NoSource, NoDestination, NoRoute, TooFar}
use Rattle.topo.specs.declared.parts.Node.{Node}
use Rattle.routes.specs.declared.graph.Arc.{Arc}
use Rattle.routes.specs.Walk.{IsWalk}
use Rattle.routes.specs.LeastWalk.{IsLeastWalk}
use Rattle.ip_bind.specs.Frames.{addresses_of}
use Rattle.ip_bind.specs.Books.{node_with_address}

-- the two nodes that were found, or the first that wasn't
abbrev pub both_nodes : Option ℕ → Option ℕ → Result (ℕ × ℕ) Unbound
both_nodes None destination = Err NoSource
both_nodes (Some source) None = Err NoDestination
both_nodes (Some source) (Some destination) = Ok (source, destination)

-- the two nodes that have the addresses of a frame
abbrev pub nodes_of_addresses : List Node → Result (ℕ × ℕ) Unbound → Result (ℕ × ℕ) Unbound
nodes_of_addresses nodes (Ok ends) = both_nodes (node_with_address nodes ends.0) (node_with_address nodes ends.1)
nodes_of_addresses nodes (Err cause) = Err cause

-- the source and the destination of a frame of a link type, or the first cause
abbrev pub ends_of : List Node → ℕ → List ℕ → Result (ℕ × ℕ) Unbound
ends_of nodes link_type frame = nodes_of_addresses nodes (addresses_of link_type frame)

-- a source, a destination, and the pipes of the route from one to the other
pub record Binding : Type 0 where
  pub source : ℕ
  pub destination : ℕ
  pub route : List ℕ

-- what the route of two nodes is: the least walk over the pipes, unless no walk exists or it has too many pipes
abbrev pub IsRouted : List Arc → ℕ → ℕ → Result (List ℕ) Unbound → Type 0
IsRouted arcs source destination (Ok route) = IsLeastWalk arcs source destination route × (length route ≤ ROUTE_PIPES_MAX)
IsRouted arcs source destination (Err NoRoute) = (walk : List ℕ) → IsWalk arcs source destination walk → ⊥
IsRouted arcs source destination (Err TooFar) =
    (walk : List ℕ) × IsLeastWalk arcs source destination walk × (ROUTE_PIPES_MAX < length walk)
IsRouted arcs source destination (Err Short) = ⊥
IsRouted arcs source destination (Err NotIpv4) = ⊥
IsRouted arcs source destination (Err NoSource) = ⊥
IsRouted arcs source destination (Err NoDestination) = ⊥

-- the nodes have no route, for this cause
pub record HasNoRoute (arcs : List Arc) (ends : Result (ℕ × ℕ) Unbound) (cause : Unbound) : Type 0 where
  pub source : ℕ
  pub destination : ℕ
  pub ends_are : ends ≡ Ok (source, destination)
  pub routed : IsRouted arcs source destination (Err cause)

-- what two nodes, or a cause, are bound to: unbound for a cause where there are no two nodes, or where they have no route
abbrev pub IsBindingOf : List Arc → Result (ℕ × ℕ) Unbound → Result Binding Unbound → Type 0
IsBindingOf arcs ends (Ok b) = (ends ≡ Ok (b.source, b.destination)) × IsRouted arcs b.source b.destination (Ok b.route)
IsBindingOf arcs ends (Err cause) = (ends ≡ Err cause) ⊎ HasNoRoute arcs ends cause

-- what a frame is bound to
abbrev pub IsBinding : List Node → List Arc → ℕ → List ℕ → Result Binding Unbound → Type 0
IsBinding nodes arcs link_type frame binding = IsBindingOf arcs (ends_of nodes link_type frame) binding
