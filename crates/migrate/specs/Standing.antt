-- What the cores keep between two windows: each pipe stands for its visits before the end of the last window, what is due is due at
-- the owner of its pipe, and packets are settled where they entered.
use Rattle.std.specs.Prelude.{◌≡◌, ◌↔◌, ℕ, ◌+◌, ◌<◌, List, length, map, Some, All}
use Rattle.std.specs.List.{range_with_len}
use Rattle.mn_base.specs.Among.{Among}
use Rattle.mn_base.specs.declared.due.Due.{Due}
use Rattle.journal.specs.declared.visit.Visit.{Visit}
use Rattle.journal.specs.Hops.{due_of}
use Rattle.journal.specs.Journal.{journal_of}
use Rattle.journal.specs.IsPipe.{SetupPipeView, IsPipe}
use Rattle.parcel.specs.Counts.{counts_of}
use Rattle.parcel.specs.Lookahead.{lookahead_of}
use Rattle.parcel.specs.Laws.{IsLeastFrom}
use Rattle.parcel.specs.Owners.{owned_by}
use Rattle.deadline_heap.specs.Canonical.{IsCanonical}
use Rattle.core_loop.specs.WorldState.{AreSettled}
use Rattle.migrate.specs.ShelvesView.{ShelfView, ShelvesView, pipe_in, IsShelfOf, owner_now}
use Rattle.migrate.specs.Windows.{visits_before, visits_within, IsDueFrom, IsDecidedBefore, visits_of_core}

-- every pipe is at its owner, and nowhere else, and stands for its visits before the end of the last window
pub record PipesStand (w : ShelvesView) : Type 0 where
  pub one_a_pipe : length w.owners ≡ length w.setup.pipes
  pub owners : All (λ core. core < w.setup.cores) w.owners
  pub there : (pipe : ℕ) (s : ShelfView) → pipe < length w.setup.pipes → IsShelfOf w (owner_now w pipe) s
      → (m : SetupPipeView) × (pipe_in s.pipes pipe ≡ Some m) × IsPipe w.setup (visits_before w.setup w.end) pipe m
  pub nowhere_else : (core pipe : ℕ) (s : ShelfView) (m : SetupPipeView) → IsShelfOf w core s → pipe_in s.pipes pipe ≡ Some m
      → (pipe < length w.setup.pipes) × (owner_now w pipe ≡ core)

-- the due visits of a core are those that are due from the end of the last window on and whose pipes it owns
pub record AreDue (w : ShelvesView) (core : ℕ) (due : List Due) : Type 0 where
  pub canonical : IsCanonical due
  pub members : (x : Due) → Among x due
      ↔ ((v : Visit) × IsDueFrom w.setup w.end v × (owner_now w v.pipe ≡ core) × (due_of v ≡ x))

-- the setup's packets have these bytes
pub record ShelvesStand (bytes : List (List ℕ)) (w : ShelvesView) : Type 0 where
  pub one_a_core : length w.shelves ≡ w.setup.cores
  pub pipes : PipesStand w
  pub due : (core : ℕ) (s : ShelfView) → IsShelfOf w core s → AreDue w core s.due
  pub settled : (core : ℕ) (s : ShelfView) → IsShelfOf w core s
      → AreSettled w.setup bytes core (IsDecidedBefore w.setup w.end) s.settled s.store
  -- each visit to a pipe is counted
  pub counts : w.counts ≡ map (counts_of (visits_before w.setup w.end)) (range_with_len 0 (length w.setup.pipes))
  pub made : w.made ≡ length (visits_before w.setup w.end)

-- for whatever bytes they stood, they stand for them still
abbrev pub StillStand : ShelvesView → ShelvesView → Type 0
StillStand v w = (bytes : List (List ℕ)) → ShelvesStand bytes v → ShelvesStand bytes w

-- no window or visit is run, and the pipes are at the owners of the setup
pub record HaveRunNothing (w : ShelvesView) : Type 0 where
  pub owners : w.owners ≡ w.setup.owners
  pub end : w.end ≡ 0
  pub windows : w.windows ≡ 0
  pub made : w.made ≡ 0
  pub visits : (core : ℕ) (s : ShelfView) → IsShelfOf w core s → s.visits ≡ 0

-- all visits are before the end of the last window
abbrev pub HaveRunAll : ShelvesView → Type 0
HaveRunAll w = (v : Visit) → Among v (journal_of w.setup) → v.tick < w.end

-- the length of the next window: the lookahead of the setup with the owners as they stand
abbrev pub window_len : ShelvesView → ℕ
window_len w = lookahead_of (owned_by w.setup w.owners)

-- one more window is run: it starts at the least tick that is due, has the length of the lookahead with the owners as they stand, and
-- each of its visits is run by the owner of its pipe
pub record RunsWindow (v w : ShelvesView) : Type 0 where
  pub start : ℕ
  pub least : IsLeastFrom v.setup v.end start
  pub end : w.end ≡ start + window_len v
  pub windows : w.windows ≡ v.windows + 1
  pub owners : w.owners ≡ v.owners
  pub visits : (core : ℕ) (s t : ShelfView) → IsShelfOf v core s → IsShelfOf w core t
      → t.visits ≡ s.visits + visits_of_core v.owners core (visits_within v.setup start w.end)
