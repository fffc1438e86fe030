-- What a core has noted of the packets that enter there, at its start.
use Rattle.std.specs.Prelude.{◌≡◌, ◌≢◌, ◌⊎◌, ℕ, List, [], ◌∷◌, Option, Some, None, IsSome, AllPairs}
use Rattle.std.specs.FinMap as fin
use Rattle.mn_base.specs.Among.{Among}
use Rattle.mn_base.specs.declared.due.Due.{Due}
use Rattle.journal.specs.declared.setup.PacketPlan.{PacketPlan}
use Rattle.journal.specs.declared.fate.Fate.TheVariants.{Left}
use Rattle.journal.specs.SetupView.{SetupView}
use Rattle.journal.specs.Hops.{entry}
use Rattle.deadline_heap.specs.Canonical.{HasNoneOf}
use Rattle.core_loop.specs.Work.{EntrantsView, Settling, WorkView, Announces}

-- a packet enters: its first visit is noted; or it has no way to go, and is settled
abbrev pub EntersBy : PacketPlan → Option Due → WorkView → EntrantsView → WorkView → EntrantsView → Type 0
EntersBy p None v d w e = (w ≡ v) × Settling d p.number (Left p.entry_tick) e
EntersBy p (Some x) v d w e = Announces v x w × (e ≡ d)

-- a packet enters at this core, or at another one
abbrev pub MayEnter : SetupView → PacketPlan → WorkView → EntrantsView → WorkView → EntrantsView → Type 0
MayEnter S p v d w e =
    ((p.core ≡ v.number) × EntersBy p (entry S p) v d w e)
    ⊎ ((p.core ≢ v.number) × (w ≡ v) × (e ≡ d))

-- packets enter in turn
abbrev pub EntersAll : SetupView → List PacketPlan → WorkView → EntrantsView → WorkView → EntrantsView → Type 0
EntersAll S [] v d w e = (w ≡ v) × (e ≡ d)
EntersAll S (p ∷ ps) v d w e = (u : WorkView) × (b : EntrantsView) × MayEnter S p v d u b × EntersAll S ps u b w e

-- a packet that enters can be noted: it has no visit due, and its payload is held
pub record CanEnter (p : PacketPlan) (heap : List Due) (e : EntrantsView) : Type 0 where
  pub alone : HasNoneOf p.number heap
  pub held : IsSome (fin.get e.store.held p.number)

pub record CanEnterAll (core : ℕ) (ps : List PacketPlan) (heap : List Due) (e : EntrantsView) : Type 0 where
  pub each : (p : PacketPlan) → Among p ps → p.core ≡ core → CanEnter p heap e
  pub apart : AllPairs (λ p q. p.number ≢ q.number) ps
