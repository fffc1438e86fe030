-- The cores of a run before its first window, as pipes are put to their owners and packets enter.
use Rattle.std.specs.Prelude.{◌≡◌, ◌≢◌, ◌↔◌, ℕ, ◌<◌, List, [], length, Option, Some, None, slice_get}
use Rattle.mn_base.specs.Among.{Among}
use Rattle.mn_base.specs.declared.due.Due.{Due}
use Rattle.journal.specs.declared.setup.PacketPlan.{PacketPlan}
use Rattle.journal.specs.declared.fate.Fate.TheVariants.{Left}
use Rattle.journal.specs.SetupView.{SetupView, route_of}
use Rattle.journal.specs.Hops.{pipe_of, entry}
use Rattle.journal.specs.IsPipe.{SetupPipeView}
use Rattle.parcel.specs.Owners.{owner_of}
use Rattle.deadline_heap.specs.Canonical.{IsCanonical}
use Rattle.core_loop.specs.WorldState.{AreSettled}
use Rattle.migrate.specs.ShelvesView.{ShelfView, pipe_in}
use Rattle.migrate.specs.Running.{HoldsPipe, ChangesAt, PutsDue, SettlesPacket}

-- ---- pipes

-- a pipe is put to a core
pub record PutsPipe (number : ℕ) (pipe : SetupPipeView) (s t : ShelfView) : Type 0 where
  pub here : pipe_in t.pipes number ≡ Some pipe
  pub others : (other : ℕ) → other ≢ number → pipe_in t.pipes other ≡ pipe_in s.pipes other
  pub same : t ≡ record s { pipes = t.pipes }

-- the pipes below a number are at their owners, and nowhere else, before any visit
pub record AreLaidOut (S : SetupView) (many : ℕ) (shelves : List ShelfView) : Type 0 where
  pub there : (pipe : ℕ) (s : ShelfView) → pipe < many → slice_get shelves (owner_of S pipe) ≡ Some s → HoldsPipe S [] pipe s.pipes
  pub nowhere_else : (core pipe : ℕ) (s : ShelfView) (m : SetupPipeView) → slice_get shelves core ≡ Some s
      → pipe_in s.pipes pipe ≡ Some m → (pipe < many) × (owner_of S pipe ≡ core)

-- the cores are the same but for their pipes
pub record SameButPipes (old new : List ShelfView) : Type 0 where
  pub as_many : length new ≡ length old
  pub each : (core : ℕ) (s t : ShelfView) → slice_get old core ≡ Some s → slice_get new core ≡ Some t → t ≡ record s { pipes = t.pipes }

-- ---- packets

-- the first visit of a packet is due at the owner of its pipe; or it has no way to go, and is settled where it enters
abbrev pub HasEnteredBy : SetupView → PacketPlan → Option Due → List ShelfView → List ShelfView → Type 0
HasEnteredBy S p (Some x) old new = ChangesAt (owner_of S (pipe_of S x)) (PutsDue x) old new
HasEnteredBy S p None old new = ChangesAt p.core (SettlesPacket p.number (Left p.entry_tick)) old new

-- a packet below an index has this first visit
abbrev pub IsFirstVisit : SetupView → ℕ → Due → Type 0
IsFirstVisit S many x =
    (index : ℕ) × (p : PacketPlan) × (index < many) × (slice_get S.packets index ≡ Some p) × (entry S p ≡ Some x)

-- a packet below an index has no way to go
abbrev pub IsWayless : SetupView → ℕ → PacketPlan → Type 0
IsWayless S many p = (index : ℕ) × (index < many) × (slice_get S.packets index ≡ Some p) × (route_of S p.number ≡ [])

-- the packets below an index have entered
pub record PacketsEntered (S : SetupView) (many : ℕ) (old new : List ShelfView) : Type 0 where
  pub as_many : length new ≡ length old
  pub same : (core : ℕ) (s t : ShelfView) → slice_get old core ≡ Some s → slice_get new core ≡ Some t
      → (t.pipes ≡ s.pipes) × (t.visits ≡ s.visits)
  pub canonical : (core : ℕ) (t : ShelfView) → slice_get new core ≡ Some t → IsCanonical t.due
  pub members : (core : ℕ) (t : ShelfView) (x : Due) → slice_get new core ≡ Some t
      → Among x t.due ↔ (IsFirstVisit S many x × (owner_of S (pipe_of S x) ≡ core))
  pub settled : (bytes : List (List ℕ)) (core : ℕ) (s t : ShelfView) → slice_get old core ≡ Some s → slice_get new core ≡ Some t
      → AreSettled S bytes core (λ p. ⊥) s.settled s.store → AreSettled S bytes core (IsWayless S many) t.settled t.store
