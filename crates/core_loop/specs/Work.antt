-- What contracts see of the parts of a core, and what they have while a window is run.
use Rattle.std.specs.Prelude.{◌≡◌, ◌≢◌, ◌⊎◌, ◌↔◌, ℕ, ◌+◌, ◌*◌, ◌<◌, ◌≤◌, ◌==◌, Bool, true, false, ◌&&◌, ◌||◌, not, List, [], ◌∷◌, ◌++◌, length, map, filter, Some, slice_get}
use Rattle.std.specs.FinMap as fin
use Rattle.mn_base.specs.Among.{Among}
use Rattle.mn_base.specs.declared.due.Due.{Due}
use Rattle.mn_base.specs.declared.limits.TheConstants.{PACKETS_MAX, TIME_NS_END}
use Rattle.pipe.specs.declared.step.Step.{Step}
use Rattle.pipe.specs.declared.step.Step.TheVariants.{Lost, Full, Pass}
use Rattle.journal.specs.declared.visit.Visit.{Visit}
use Rattle.journal.specs.declared.fate.Fate.{Fate}
use Rattle.journal.specs.SetupView.{SetupView}
use Rattle.journal.specs.IsSetup.{IsSetup}
use Rattle.journal.specs.Hops.{due_of, pipe_of}
use Rattle.journal.specs.Journal.{journal_of}
use Rattle.journal.specs.Steps.{visits_to}
use Rattle.journal.specs.IsPipe.{SetupPipeView}
use Rattle.parcel.specs.declared.note.Note.{Note}
use Rattle.parcel.specs.declared.note.Note.TheVariants.{Arrive, Settle}
use Rattle.parcel.specs.declared.counts.PipeCounts.{PipeCounts}
use Rattle.parcel.specs.declared.counts.CoreCounts.{CoreCounts}
use Rattle.parcel.specs.declared.core_result.Settled.{Settled}
use Rattle.parcel.specs.Results.{bytes_by_fate}
use Rattle.parcel.specs.Owners.{owner_of}
use Rattle.parcel.specs.Lookahead.{lookahead_of}
use Rattle.parcel.specs.Windows.{window_of}
use Rattle.parcel.specs.Laws.{Starts}
use Rattle.parcel.specs.DueAt.{IsDueAfter}
use Rattle.parcel.specs.Told.{Told, told_due, told_by}
use Rattle.parcel.proofs.Running.{IsNextOwn}
use Rattle.payload_store.specs.StoreView.{StoreView}
use Rattle.deadline_heap.specs.Canonical.{HasNoneOf, IsCanonical, placed}
use Rattle.core_loop.specs.WorldState.{AreOwnPipes, own_counts}

-- ---- the packets that entered

-- what contracts see of the packets that entered at a core
pub record EntrantsView : Type 0 where
  pub settled : List Settled
  pub store : StoreView

-- a packet whose payload was held is settled
pub record Settling (old : EntrantsView) (packet : ℕ) (fate : Fate) (new : EntrantsView) : Type 0 where
  pub payload : List ℕ
  pub was_held : fin.get old.store.held packet ≡ Some payload
  pub held : new.store.held ≡ fin.remove old.store.held packet
  pub released : new.store.released ≡ old.store.released ++ packet ∷ []
  pub settled : new.settled ≡ old.settled ++ record { packet = packet; fate = fate; bytes = bytes_by_fate fate payload } ∷ []

-- ---- the pipes

-- what contracts see of the pipes of a core
pub record OwnPipesView : Type 0 where
  pub pipes : List SetupPipeView
  pub counts : List PipeCounts

-- the pipes of a core after the visits of J
pub record HaveRun (S : SetupView) (core : ℕ) (J : List Visit) (own : OwnPipesView) : Type 0 where
  pub pipes_are : AreOwnPipes S core J own.pipes
  pub counts_are : own.counts ≡ own_counts S core J

-- the number of each own pipe leads to its index, and each has its counts
pub record AreIndexed (index_of : List ℕ) (pipes : List SetupPipeView) (counts : List PipeCounts) : Type 0 where
  pub count : length counts ≡ length pipes
  pub indexed : (index : ℕ) (m : SetupPipeView) → slice_get pipes index ≡ Some m → slice_get index_of m.number ≡ Some index

-- after the visits of J, x comes to the own pipe of this number
pub record ComesTo (S : SetupView) (core : ℕ) (J : List Visit) (x : Due) (pipe : ℕ) (own : OwnPipesView) : Type 0 where
  pub have_run : HaveRun S core J own
  pub owner : owner_of S pipe ≡ core
  pub named : pipe < length S.pipes
  pub at_pipe : pipe ≡ pipe_of S x
  pub order : (v : Visit) → Among v J → v.tick ≤ x.tick
  pub time : x.tick * S.tick_ns < TIME_NS_END
  pub few : length (visits_to S pipe J) < PACKETS_MAX

-- ---- the work of a window

-- what contracts see of the work of a core
pub record WorkView : Type 0 where
  pub setup : SetupView
  -- the core's number
  pub number : ℕ
  pub heap : List Due
  pub pipes : OwnPipesView
  -- `windows` is the number of the window
  pub counts : CoreCounts
  pub told : List Told

-- a visit that a core makes in this window
abbrev pub is_run : SetupView → ℕ → ℕ → Visit → Bool
is_run S core window v = (owner_of S v.pipe == core) && (window_of S v.tick == window)

abbrev pub is_settle : Note → Bool
is_settle (Arrive packet hop tick) = false
is_settle (Settle packet fate) = true

-- what is told when the window is run: all but the core's own visits, which are due at once
abbrev pub is_left_to_tell : ℕ → Told → Bool
is_left_to_tell core t = is_settle t.note || not (t.receiver == core)

-- what the visits of J that a core made in this window have to tell
abbrev pub told_in : SetupView → ℕ → ℕ → List Visit → List Told
told_in S core window J = filter (is_left_to_tell core) (map (told_by S) (filter (is_run S core window) J))

-- how many visits of J are the core's
abbrev pub own_count : SetupView → ℕ → List Visit → ℕ
own_count S core J = length (filter (λ v. owner_of S v.pipe == core) J)

-- the visits of `front` are made of the journal, and those of `rest` are not: the core has run all windows before this one
pub record IsSplit (S : SetupView) (core window : ℕ) (front rest : List Visit) : Type 0 where
  pub is_setup : IsSetup S
  pub whole : front ++ rest ≡ journal_of S
  pub early : (u : Visit) → Among u front → owner_of S u.pipe ≡ core → window_of S u.tick ≤ window
  pub late : (u : Visit) → Among u rest → owner_of S u.pipe ≡ core → window ≤ window_of S u.tick

-- these are the visits that are due after those of `front`, in canonical order
pub record IsHeapAfter (S : SetupView) (core window : ℕ) (front rest : List Visit) (heap : List Due) : Type 0 where
  pub canonical : IsCanonical heap
  pub members : (x : Due) → Among x heap ↔ ((v : Visit) × IsDueAfter S core window front rest v × (due_of v ≡ x))

-- what the visits of J that were made have left: pipes, counts, and what is to be told
pub record HaveLeft (J : List Visit) (w : WorkView) : Type 0 where
  pub pipes_have_run : HaveRun w.setup w.number J w.pipes
  pub visits : w.counts.visits ≡ own_count w.setup w.number J
  pub told_is : w.told ≡ told_in w.setup w.number w.counts.windows J

-- a window is being run
pub record Runs (w : WorkView) : Type 0 where
  pub front : List Visit
  pub rest : List Visit
  pub split : IsSplit w.setup w.number w.counts.windows front rest
  pub heap_is : IsHeapAfter w.setup w.number w.counts.windows front rest w.heap
  pub have_left : HaveLeft front w

-- the next visit of the core, in this window, is the one that was due first
pub record IsChosen (S : SetupView) (core window : ℕ) (rest : List Visit) (x : Due) : Type 0 where
  pub skipped : List Visit
  pub visit : Visit
  pub behind : List Visit
  pub next : IsNextOwn S core rest skipped visit behind
  pub is_due : due_of visit ≡ x
  pub here : window_of S visit.tick ≡ window

-- what was due and isn't the visit that was taken out is left in the heap
pub record IsHeapWithout (S : SetupView) (core window : ℕ) (front rest : List Visit) (visit : Visit) (heap : List Due) : Type 0 where
  pub canonical : IsCanonical heap
  pub alone : HasNoneOf visit.packet heap
  pub members : (x : Due) → Among x heap
      ↔ ((v : Visit) × (IsDueAfter S core window front rest v × (visit ≢ v)) × (due_of v ≡ x))

-- x was taken out of the heap and is to be made
pub record Chooses (w : WorkView) (x : Due) : Type 0 where
  pub front : List Visit
  pub rest : List Visit
  pub split : IsSplit w.setup w.number w.counts.windows front rest
  pub chosen : IsChosen w.setup w.number w.counts.windows rest x
  pub heap_is : IsHeapWithout w.setup w.number w.counts.windows front rest chosen.visit w.heap
  pub have_left : HaveLeft front w

-- x was made, with this step; what follows it is to be noted
pub record Makes (w : WorkView) (x : Due) (step : Step) : Type 0 where
  pub front : List Visit
  pub rest : List Visit
  pub split : IsSplit w.setup w.number w.counts.windows front rest
  pub chosen : IsChosen w.setup w.number w.counts.windows rest x
  pub heap_is : IsHeapWithout w.setup w.number w.counts.windows front rest chosen.visit w.heap
  pub step_is : step ≡ chosen.visit.step
  pub pipes_have_run : HaveRun w.setup w.number (front ++ (chosen.skipped ++ chosen.visit ∷ [])) w.pipes
  pub visits : w.counts.visits ≡ own_count w.setup w.number (front ++ (chosen.skipped ++ chosen.visit ∷ []))
  pub told_is : w.told ≡ told_in w.setup w.number w.counts.windows front

-- the end of the window in hand
abbrev pub IsEnd : WorkView → ℕ → Type 0
IsEnd w end = (start : ℕ) × Starts w.setup w.counts.windows start × (start + lookahead_of w.setup ≡ end)

-- all visits of the core in the window are made
pub record HasRun (w : WorkView) : Type 0 where
  pub runs : Runs w
  pub ended : (u : Visit) → Among u runs.rest → owner_of w.setup u.pipe ≡ w.number → w.counts.windows < window_of w.setup u.tick

-- setup, number and all counts but that of visits stay
pub record StaysAtWork (v w : WorkView) : Type 0 where
  pub same_setup : w.setup ≡ v.setup
  pub same_number : w.number ≡ v.number
  pub same_counts : w.counts ≡ record v.counts { visits = w.counts.visits }

-- ---- counting

-- no count has reached this number
pub record IsBelow (c : PipeCounts) (most : ℕ) : Type 0 where
  pub passed : c.passed < most
  pub lost : c.lost < most
  pub full : c.full < most

-- ---- what is noted

-- one note more is to be told
abbrev pub Tells : WorkView → ℕ → Note → WorkView → Type 0
Tells v receiver note w = w ≡ record v { told = v.told ++ record { receiver = receiver; note = note } ∷ [] }

-- a visit that comes to be due is due here, or its owner is to be told
pub record IsDueHere (v : WorkView) (x : Due) (w : WorkView) : Type 0 where
  pub own : owner_of v.setup (pipe_of v.setup x) ≡ v.number
  pub members : (y : Due) → Among y w.heap ↔ ((x ≡ y) ⊎ Among y v.heap)
  pub same : w ≡ record v { heap = placed x v.heap }

pub record IsDueElsewhere (v : WorkView) (x : Due) (w : WorkView) : Type 0 where
  pub other : owner_of v.setup (pipe_of v.setup x) ≢ v.number
  pub tells : w ≡ record v { told = v.told ++ told_due v.setup x ∷ [] }

abbrev pub Announces : WorkView → Due → WorkView → Type 0
Announces v x w = IsDueHere v x w ⊎ IsDueElsewhere v x w
