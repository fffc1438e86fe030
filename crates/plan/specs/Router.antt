-- Routes that are found on demand, the route of each ordered pair of nodes once.
use Rattle.std.specs.Prelude.{◌≡◌, ℕ, false, true, List, [], ◌∷◌, ◌++◌, length, map, Option, Some, None, Result, Ok, Err, if◌then◌else◌, All}
use Rattle.std.specs.List.{list_any, position_or_len}
use Rattle.std.specs.BTreeMap.{get}
use Rattle.mn_base.specs.declared.causes.Unbound.{Unbound}
use Rattle.routes.specs.declared.graph.Arc.{Arc}
use Rattle.pipe.specs.VisitEntries.{pair_cmp}
use Rattle.plan.specs.Binding.{Binding, IsRouted}
use Rattle.plan.specs.Plans.{joins, has_ends}
use Rattle.plan.specs.declared.uses.Use.{Use}
use Rattle.plan.specs.declared.router.Router.{Router}

-- ---- uses
abbrev pub binding_of : Use → Binding
binding_of u = record { source = u.source; destination = u.destination; route = u.route.items }

abbrev pub bindings_of : List Use → List Binding
bindings_of uses = map binding_of uses

-- the uses, with this one after them if its nodes weren't used before
abbrev pub with_use : List Binding → Binding → List Binding
with_use uses b = if list_any (has_ends b) uses then uses else uses ++ b ∷ []

-- ---- what is known of the route between two nodes
-- nobody asked; or its place among the uses; or why there is none
abbrev pub IsKnownAnswer : List Arc → List Binding → ℕ → ℕ → Option (Result ℕ Unbound) → Type 0
IsKnownAnswer arcs uses source destination None = list_any (joins source destination) uses ≡ false
IsKnownAnswer arcs uses source destination (Some (Ok index)) =
    (list_any (joins source destination) uses ≡ true) × (index ≡ position_or_len (joins source destination) uses)
IsKnownAnswer arcs uses source destination (Some (Err cause)) = IsRouted arcs source destination (Err cause)

-- each use is a route of the graph, and of each two nodes it is known what was answered
pub record IsRouter (arcs : List Arc) (uses : List Binding) (answers : ℕ → ℕ → Option (Result ℕ Unbound)) : Type 0 where
  pub routed : All (λ b. IsRouted arcs b.source b.destination (Ok b.route)) uses
  pub known : (source destination : ℕ) → IsKnownAnswer arcs uses source destination (answers source destination)

-- the route has this place among the uses
pub record Uses (arcs : List Arc) (old : List Binding) (source destination index : ℕ) (new : List Binding) : Type 0 where
  pub route : List ℕ
  pub routed : IsRouted arcs source destination (Ok route)
  pub uses : new ≡ with_use old (record { source = source; destination = destination; route = route })
  pub index_is : index ≡ position_or_len (joins source destination) new

-- what a router answers for two nodes: the place of their route among the uses, or why they have none
abbrev pub IsRouterAnswer : List Arc → List Binding → ℕ → ℕ → List Binding → Result ℕ Unbound → Type 0
IsRouterAnswer arcs old source destination new (Ok index) = Uses arcs old source destination index new
IsRouterAnswer arcs old source destination new (Err cause) = (new ≡ old) × IsRouted arcs source destination (Err cause)

-- ---- the router
-- what it answered is what is known of its uses
abbrev pub HoldsAnswers : Router → Type 0
HoldsAnswers r =
    let graph = r.searches in IsRouter graph.arcs (bindings_of r.uses.items) (λ source destination. get pair_cmp r.answers (source, destination))

-- the route is a new use, after the others, or there is none
abbrev pub IsFirstAnswer : List Arc → List Binding → ℕ → ℕ → List Binding → Result ℕ Unbound → Type 0
IsFirstAnswer arcs old source destination new (Ok index) =
    (route : List ℕ)
    × IsRouted arcs source destination (Ok route)
    × (new ≡ old ++ record { source = source; destination = destination; route = route } ∷ [])
    × (index ≡ length old)
IsFirstAnswer arcs old source destination new (Err cause) = (new ≡ old) × IsRouted arcs source destination (Err cause)
