-- What it means that a pipe moves to another core.
use Rattle.std.specs.Prelude.{◌≡◌, ◌≢◌, ◌⊎◌, ◌↔◌, ℕ, ◌^◌, ◌-◌, ◌<◌, ◌==◌, List, length, filter, All, AllPairs, Option, Some, None, IsSome, slice_get, slice_set}
use Rattle.mn_base.specs.Among.{Among}
use Rattle.mn_base.specs.declared.due.Due.{Due}
use Rattle.journal.specs.SetupView.{SetupView, packet_of, route_of}
use Rattle.journal.specs.Hops.{pipe_of}
use Rattle.journal.specs.IsPipe.{SetupPipeView}
use Rattle.deadline_heap.specs.Canonical.{HasNoneOf, IsCanonical}
use Rattle.migrate.specs.ShelvesView.{ShelfView, ShelvesView, pipe_in, IsShelfOf, owner_now}

-- what becomes of a core when the pipe moves from `giver` to the core `to`: its state and its due visits are at `to`, and those of
-- other pipes stay
pub record MovesAt (S : SetupView) (pipe to core : ℕ) (giver s t : ShelfView) : Type 0 where
  pub state : core ≡ to → pipe_in t.pipes pipe ≡ pipe_in giver.pipes pipe
  pub gone : core ≢ to → pipe_in t.pipes pipe ≡ None
  pub other_pipes : (other : ℕ) → other ≢ pipe → pipe_in t.pipes other ≡ pipe_in s.pipes other
  pub due : (x : Due) → pipe_of S x ≡ pipe → Among x t.due ↔ ((core ≡ to) × Among x giver.due)
  pub other_due : (x : Due) → pipe_of S x ≢ pipe → Among x t.due ↔ Among x s.due
  pub settled : t.settled ≡ s.settled
  pub store : t.store ≡ s.store
  pub visits : t.visits ≡ s.visits

-- the pipe is owned by this core now, its state and its due visits are there, and nothing else changes
pub record MovesPipe (v : ShelvesView) (pipe to : ℕ) (w : ShelvesView) : Type 0 where
  pub owners : w.owners ≡ slice_set v.owners pipe to
  pub shelves : (core : ℕ) (giver s t : ShelfView) → IsShelfOf v (owner_now v pipe) giver → IsShelfOf v core s
      → IsShelfOf w core t → MovesAt v.setup pipe to core giver s t
  pub cores : length w.shelves ≡ length v.shelves
  pub counts : w.counts ≡ v.counts
  pub end : w.end ≡ v.end
  pub windows : w.windows ≡ v.windows
  pub made : w.made ≡ v.made

-- ---- how it goes

-- a due visit is of a packet of the setup, at a hop of its route
abbrev pub IsOnRoute : SetupView → Due → Type 0
IsOnRoute S x = IsSome (packet_of S x.packet) × (x.hop < length (route_of S x.packet))

-- what a pipe takes along
pub record LoadView : Type 0 where
  pub state : Option SetupPipeView
  pub due : List Due

-- due visits are parted: those to a pipe, in order, and the others
pub record PartsDue (S : SetupView) (pipe : ℕ) (all going staying : List Due) : Type 0 where
  pub going_are : going ≡ filter (λ x. pipe_of S x == pipe) all
  pub ticks : All (λ x. x.tick < 2 ^ 64 - 1) going
  pub apart : AllPairs (λ x y. x.packet ≢ y.packet) going
  pub canonical : IsCanonical staying
  pub members : (x : Due) → Among x staying ↔ (Among x all × (pipe_of S x ≢ pipe))

-- a core hands out a pipe
pub record GivesPipe (S : SetupView) (pipe : ℕ) (s : ShelfView) (load : LoadView) (t : ShelfView) : Type 0 where
  pub state : load.state ≡ pipe_in s.pipes pipe
  pub gone : pipe_in t.pipes pipe ≡ None
  pub other_pipes : (other : ℕ) → other ≢ pipe → pipe_in t.pipes other ≡ pipe_in s.pipes other
  pub parts : PartsDue S pipe s.due load.due t.due
  pub settled : t.settled ≡ s.settled
  pub store : t.store ≡ s.store
  pub visits : t.visits ≡ s.visits

-- a core can take in what a pipe takes along
pub record CanReceive (load : LoadView) (s : ShelfView) : Type 0 where
  pub ticks : All (λ x. x.tick < 2 ^ 64 - 1) load.due
  pub apart : AllPairs (λ x y. x.packet ≢ y.packet) load.due
  pub alone : All (λ x. HasNoneOf x.packet s.due) load.due

-- a core takes in a pipe
pub record ReceivesPipe (pipe : ℕ) (load : LoadView) (s t : ShelfView) : Type 0 where
  pub state : (m : SetupPipeView) → load.state ≡ Some m → pipe_in t.pipes pipe ≡ Some m
  pub other_pipes : (other : ℕ) → other ≢ pipe → pipe_in t.pipes other ≡ pipe_in s.pipes other
  pub canonical : IsCanonical t.due
  pub members : (x : Due) → Among x t.due ↔ (Among x load.due ⊎ Among x s.due)
  pub settled : t.settled ≡ s.settled
  pub store : t.store ≡ s.store
  pub visits : t.visits ≡ s.visits

-- a pipe goes from one core to another, and no other core changes
pub record CarriesPipe (S : SetupView) (pipe giver taker : ℕ) (old new : List ShelfView) : Type 0 where
  pub as_many : length new ≡ length old
  pub others : (core : ℕ) → core ≢ giver → core ≢ taker → slice_get new core ≡ slice_get old core
  pub load : LoadView
  pub gives : (s t : ShelfView) → slice_get old giver ≡ Some s → slice_get new giver ≡ Some t → GivesPipe S pipe s load t
  pub receives : (s t : ShelfView) → slice_get old taker ≡ Some s → slice_get new taker ≡ Some t → ReceivesPipe pipe load s t
