-- What the cores have while a window is run: all after the visits of J, the front of the journal that is made.
use Rattle.std.specs.Prelude.{◌≡◌, ◌≢◌, ◌⊎◌, ◌↔◌, ℕ, ◌+◌, ◌*◌, ◌<◌, ◌≤◌, ◌++◌, ◌∷◌, List, [], length, map, Option, Some, None, slice_get, slice_index, All, if◌then◌else◌}
use Rattle.std.specs.List.{range_with_len}
use Rattle.mn_base.specs.Among.{Among}
use Rattle.mn_base.specs.Canonical.{Before, is_before}
use Rattle.mn_base.specs.declared.due.Due.{Due}
use Rattle.mn_base.specs.declared.limits.TheConstants.{PACKETS_MAX, TIME_NS_END}
use Rattle.pipe.specs.Scheme.{IsGrowingBy}
use Rattle.journal.specs.declared.setup.PacketPlan.{PacketPlan}
use Rattle.journal.specs.declared.visit.Visit.{Visit}
use Rattle.journal.specs.declared.fate.Fate.{Fate}
use Rattle.journal.specs.SetupView.{SetupView, route_of}
use Rattle.journal.specs.IsJournal.{scheme_of}
use Rattle.journal.specs.Hops.{pipe_of}
use Rattle.journal.specs.Journal.{journal_of, pending}
use Rattle.journal.specs.Fates.{last_visit}
use Rattle.journal.specs.Steps.{visits_to, visit_of}
use Rattle.journal.specs.IsPipe.{SetupPipeView, IsPipe}
use Rattle.parcel.specs.declared.counts.PipeCounts.{PipeCounts}
use Rattle.parcel.specs.Counts.{counts_of}
use Rattle.deadline_heap.specs.Canonical.{IsCanonical}
use Rattle.core_loop.specs.WorldState.{AreSettled}
use Rattle.core_loop.specs.Work.{EntrantsView, Settling}
use Rattle.payload_store.specs.StoreView.{StoreView}
use Rattle.migrate.specs.ShelvesView.{ShelfView, ShelvesView, pipe_in, IsShelfOf}
use Rattle.migrate.specs.Windows.{visits_of_core}
use Rattle.migrate.specs.declared.window.Head.{Head}

-- ---- one pipe

-- the pipe of this number is there, after the visits of J
abbrev pub HoldsPipe : SetupView → List Visit → ℕ → List (ℕ × SetupPipeView) → Type 0
HoldsPipe S J pipe pipes = (m : SetupPipeView) × (pipe_in pipes pipe ≡ Some m) × IsPipe S J pipe m

-- after the visits of J, x comes to this pipe, which is there
pub record ComesToPipe (S : SetupView) (J : List Visit) (x : Due) (pipe : ℕ) (pipes : List (ℕ × SetupPipeView)) : Type 0 where
  pub has : HoldsPipe S J pipe pipes
  pub at_pipe : pipe ≡ pipe_of S x
  pub order : (v : Visit) → Among v J → v.tick ≤ x.tick
  pub time : x.tick * S.tick_ns < TIME_NS_END
  pub few : length (visits_to S pipe J) < PACKETS_MAX

-- ---- all cores

-- a packet has an empty route, or its last visit is one of J
abbrev pub IsDecidedIn : SetupView → List Visit → PacketPlan → Type 0
IsDecidedIn S J p =
    (route_of S p.number ≡ [])
    ⊎ ((v : Visit) × (last_visit (journal_of S) p.number ≡ Some v) × Among v J)

-- the due visits of a core are the pending ones to its pipes
pub record ArePending (S : SetupView) (J : List Visit) (owners : List ℕ) (core : ℕ) (due : List Due) : Type 0 where
  pub canonical : IsCanonical due
  pub members : (x : Due) → Among x due ↔ (Among x (pending S J) × (slice_index owners (pipe_of S x) ≡ core))

-- the pipes of these cores
pub record HavePipes (S : SetupView) (J : List Visit) (owners : List ℕ) (shelves : List ShelfView) : Type 0 where
  pub there : (pipe : ℕ) (s : ShelfView) → pipe < length S.pipes → slice_get shelves (slice_index owners pipe) ≡ Some s
      → HoldsPipe S J pipe s.pipes
  pub nowhere_else : (core pipe : ℕ) (s : ShelfView) (m : SetupPipeView) → slice_get shelves core ≡ Some s
      → pipe_in s.pipes pipe ≡ Some m → (pipe < length S.pipes) × (slice_index owners pipe ≡ core)

-- after the visits of J, where the setup's packets have these bytes
pub record IsAfter (S : SetupView) (bytes : List (List ℕ)) (J : List Visit) (owners : List ℕ) (counts : List PipeCounts)
    (shelves : List ShelfView) : Type 0 where
  pub growing : IsGrowingBy (scheme_of S) J
  pub one_a_core : length shelves ≡ S.cores
  pub one_a_pipe : length owners ≡ length S.pipes
  pub owned : All (λ core. core < S.cores) owners
  pub pipes : HavePipes S J owners shelves
  pub due : (core : ℕ) (s : ShelfView) → slice_get shelves core ≡ Some s → ArePending S J owners core s.due
  pub settled : (core : ℕ) (s : ShelfView) → slice_get shelves core ≡ Some s
      → AreSettled S bytes core (IsDecidedIn S J) s.settled s.store
  pub counted : counts ≡ map (counts_of J) (range_with_len 0 (length S.pipes))

-- ---- one change of one core

-- the core of this number changes so, and no other does
pub record ChangesAt (core : ℕ) (Changes : ShelfView → ShelfView → Type 0) (old new : List ShelfView) : Type 0 where
  pub as_many : length new ≡ length old
  pub here : (s t : ShelfView) → slice_get old core ≡ Some s → slice_get new core ≡ Some t → Changes s t
  pub others : (other : ℕ) → other ≢ core → slice_get new other ≡ slice_get old other

-- a core without pipes, at which nothing is due
abbrev pub idle_shelf : StoreView → ShelfView
idle_shelf store = record { due = []; pipes = []; settled = []; store = store; visits = 0 }

-- the first due visit is made at a pipe of the core
pub record VisitsAt (S : SetupView) (x : Due) (pipe : ℕ) (s t : ShelfView) : Type 0 where
  pub due : s.due ≡ x ∷ t.due
  pub own : (J : List Visit) → ComesToPipe S J x pipe s.pipes → HoldsPipe S (J ++ visit_of S J x ∷ []) pipe t.pipes
  pub other_pipes : (other : ℕ) → other ≢ pipe → pipe_in t.pipes other ≡ pipe_in s.pipes other
  pub settled : t.settled ≡ s.settled
  pub store : t.store ≡ s.store
  pub visits : t.visits ≡ s.visits + 1

-- a visit comes to be due at the core
pub record PutsDue (x : Due) (s t : ShelfView) : Type 0 where
  pub canonical : IsCanonical t.due
  pub members : (y : Due) → Among y t.due ↔ ((x ≡ y) ⊎ Among y s.due)
  pub pipes : t.pipes ≡ s.pipes
  pub settled : t.settled ≡ s.settled
  pub store : t.store ≡ s.store
  pub visits : t.visits ≡ s.visits

-- the packets that entered at a core
abbrev pub entrants_of : ShelfView → EntrantsView
entrants_of s = record { settled = s.settled; store = s.store }

-- a packet that entered at the core is settled
pub record SettlesPacket (packet : ℕ) (fate : Fate) (s t : ShelfView) : Type 0 where
  pub due : t.due ≡ s.due
  pub pipes : t.pipes ≡ s.pipes
  pub settling : Settling (entrants_of s) packet fate (entrants_of t)
  pub visits : t.visits ≡ s.visits

-- ---- the run of a window

-- this is the first of all due visits
pub record IsHeadOf (shelves : List ShelfView) (head : Head) : Type 0 where
  pub shelf : ShelfView
  pub there : slice_get shelves head.core ≡ Some shelf
  pub first : slice_get shelf.due 0 ≡ Some head.due
  pub least : (core : ℕ) (s : ShelfView) (y : Due) → slice_get shelves core ≡ Some s → Among y s.due → Before y head.due → ⊥

-- the same of the cores below a number
pub record IsHeadBelow (shelves : List ShelfView) (many : ℕ) (head : Head) : Type 0 where
  pub shelf : ShelfView
  pub there : slice_get shelves head.core ≡ Some shelf
  pub first : slice_get shelf.due 0 ≡ Some head.due
  pub least : (core : ℕ) (s : ShelfView) (y : Due) → core < many → slice_get shelves core ≡ Some s → Among y s.due
      → Before y head.due → ⊥

-- nothing is due at the cores below a number
abbrev pub HaveNoneBelow : List ShelfView → ℕ → Type 0
HaveNoneBelow shelves many = (core : ℕ) (s : ShelfView) (y : Due) → core < many → slice_get shelves core ≡ Some s → Among y s.due → ⊥

-- nothing is due
abbrev pub HaveNone : List ShelfView → Type 0
HaveNone shelves = (core : ℕ) (s : ShelfView) (y : Due) → slice_get shelves core ≡ Some s → Among y s.due → ⊥

-- nothing is due before this tick
abbrev pub HaveNoneBefore : List ShelfView → ℕ → Type 0
HaveNoneBefore shelves end = (core : ℕ) (s : ShelfView) (y : Due) → slice_get shelves core ≡ Some s → Among y s.due → end ≤ y.tick

-- the shelves have made the visits of J
pub record RunsOn (bytes : List (List ℕ)) (J : List Visit) (w : ShelvesView) : Type 0 where
  pub after : IsAfter w.setup bytes J w.owners w.counts w.shelves
  pub made : w.made ≡ length J
  -- no core ran more visits than were made
  pub few : (core : ℕ) (s : ShelfView) → IsShelfOf w core s → s.visits ≤ w.made

-- setup, owners, windows and the like stay
pub record StaysAtRun (v w : ShelvesView) : Type 0 where
  pub setup : w.setup ≡ v.setup
  pub owners : w.owners ≡ v.owners
  pub end : w.end ≡ v.end
  pub windows : w.windows ≡ v.windows
  pub failed : w.failed ≡ v.failed

-- after the visits of J these were made, all before this tick, each by the owner of its pipe
pub record RunsPart (bytes : List (List ℕ)) (J : List Visit) (end : ℕ) (v w : ShelvesView) : Type 0 where
  pub part : List Visit
  pub early : (u : Visit) → Among u part → u.tick < end
  pub runs : RunsOn bytes (J ++ part) w
  pub visits : (core : ℕ) (s t : ShelfView) → IsShelfOf v core s → IsShelfOf w core t
      → t.visits ≡ s.visits + visits_of_core v.owners core part

-- whatever was made before
abbrev pub HasRunBefore : ℕ → ShelvesView → ShelvesView → Type 0
HasRunBefore end v w = (bytes : List (List ℕ)) (J : List Visit) → RunsOn bytes J v → RunsPart bytes J end v w

-- the first visit so far, with the first one of one more core
abbrev pub LeadsOn : Option Head → ℕ → Option Due → Option Head → Type 0
LeadsOn head core None new = new ≡ head
LeadsOn None core (Some x) new = new ≡ Some (record { core = core; due = x })
LeadsOn (Some head) core (Some x) new =
    new ≡ (if is_before head.due x then Some head else Some (record { core = core; due = x }))
