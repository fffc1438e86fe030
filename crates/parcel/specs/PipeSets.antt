-- Sets of pipes, as a mark for each pipe, and the pipes that bound the lookahead.
use Rattle.std.specs.Prelude.{◌≡◌, ◌⊎◌, ℕ, ◌<◌, ◌≤◌, Bool, true, false, List, [], slice_index_or}
use Rattle.mn_base.specs.Among.{Among}
use Rattle.journal.specs.declared.setup.PacketPlan.{PacketPlan}
use Rattle.journal.specs.declared.setup.PipeChange.{PipeChange}
use Rattle.journal.specs.SetupView.{SetupView, route_of, first_params}
use Rattle.parcel.specs.Lookahead.{crossed_pipes}

-- the pipe is in the set
abbrev pub Has : List Bool → ℕ → Type 0
Has marks pipe = slice_index_or marks pipe false ≡ true

-- the route of some packet leaves the pipe for a pipe of another core
abbrev pub IsCrossed : SetupView → ℕ → Type 0
IsCrossed S pipe = (p : PacketPlan) × Among p S.packets × Among pipe (crossed_pipes S.owners (route_of S p.number))

-- the pipes that the route at this index leaves for a pipe of another core
abbrev pub crossed_by : SetupView → ℕ → List ℕ
crossed_by S route = crossed_pipes S.owners (slice_index_or S.routes route [])

-- all such pipes of the routes before this index are in the set
abbrev pub HasRoutesBefore : SetupView → List Bool → ℕ → Type 0
HasRoutesBefore S marks end = (route pipe : ℕ) → route < end → Among pipe (crossed_by S route) → Has marks pipe

-- those of one route are added, and now the set has those of all routes before `end`
pub record AddsRoute (S : SetupView) (old new : List Bool) (route end : ℕ) : Type 0 where
  pub added : (pipe : ℕ) → Among pipe (crossed_by S route) → Has new pipe
  pub kept : (pipe : ℕ) → Has old pipe → Has new pipe
  pub sound : (pipe : ℕ) → Has new pipe → Has old pipe ⊎ Among pipe (crossed_by S route)
  pub before : HasRoutesBefore S new end

-- `new` is the least of `old` and of what there is at the indices below `end`
pub record IsLeastOf (old : ℕ) (Is : ℕ → ℕ → Type 0) (end new : ℕ) : Type 0 where
  pub bound : new ≤ old
  pub least : (k x : ℕ) → k < end → Is k x → new ≤ x
  pub reached : (new ≡ old) ⊎ ((k : ℕ) × (k < end) × Is k new)

-- the latency of the first parameters of a pipe of the set
abbrev pub IsFirstLatency : SetupView → List Bool → ℕ → ℕ → Type 0
IsFirstLatency S marks pipe latency = Has marks pipe × ((first_params S pipe).latency_ticks ≡ latency)

-- the latency of the change at this index, which is of a pipe of the set
abbrev pub IsChangedLatency : SetupView → List Bool → ℕ → ℕ → Type 0
IsChangedLatency S marks index latency =
    (c : PipeChange) × (slice_index_or S.changes index c ≡ c) × Has marks c.pipe × (c.params.latency_ticks ≡ latency)
