-- A run with moves after so many of its windows.
use Rattle.std.specs.Prelude.{◌≡◌, ℕ, zero, suc, ◌+◌, ◌<◌, ◌≤◌, ◌==◌, false, List, length, filter, fold, take, slice_index_or}
use Rattle.std.specs.List.{AllZip}
use Rattle.journal.specs.SetupView.{SetupView}
use Rattle.migrate.specs.declared.moves.Move.{Move}
use Rattle.migrate.specs.ShelvesView.{ShelfView, ShelvesView, IsShelfOf}
use Rattle.migrate.specs.Windows.{visits_before}
use Rattle.migrate.specs.Standing.{ShelvesStand}
use Rattle.migrate.specs.Moves.{moved_owners, len_in, IsStart, IsRunBy}

-- the cores stand for the journal, whatever the bytes are of which their payloads are a part
abbrev pub DoStand : ShelvesView → Type 0
DoStand w = (bytes : List (List ℕ)) × ShelvesStand bytes w

-- the last of so many windows ends at this tick
abbrev pub EndsAt : SetupView → List Move → ℕ → ℕ → Type 0
EndsAt S moves zero end = end ≡ 0
EndsAt S moves (suc window) end = (start : ℕ) × IsStart S moves window start × (start + len_in S moves window ≡ end)

-- how many of these cores are this one
abbrev pub times : ℕ → List ℕ → ℕ
times core cores = length (filter (λ c. c == core) cores)

-- so many windows are run, each visit by the core that owned its pipe
pub record HasCome (S : SetupView) (moves : List Move) (windows : ℕ) (w : ShelvesView) : Type 0 where
  pub setup : w.setup ≡ S
  pub works : w.failed ≡ false
  pub windows_are : w.windows ≡ windows
  pub end_is : EndsAt S moves windows w.end
  pub starts : (window : ℕ) → window < windows → (start : ℕ) × IsStart S moves window start
  pub cores : List ℕ
  pub run_by : AllZip (IsRunBy S moves) (visits_before S w.end) cores
  pub visits : (core : ℕ) (s : ShelfView) → IsShelfOf w core s → s.visits ≡ times core cores

-- the moves before this index are made, and their windows are no later than this one
pub record HaveMoved (S : SetupView) (moves : List Move) (next window : ℕ) (w : ShelvesView) : Type 0 where
  pub within : next ≤ length moves
  pub owners : w.owners ≡ fold moved_owners S.owners (take next moves)
  pub early : (index : ℕ) (m : Move) → index < next → (slice_index_or moves index m).window ≤ window

-- and all others are later
pub record HaveMovedAll (S : SetupView) (moves : List Move) (next window : ℕ) (w : ShelvesView) : Type 0 where
  pub moved : HaveMoved S moves next window w
  pub late : (m : Move) → next < length moves → window < (slice_index_or moves next m).window

-- but for owners, pipes and what is due, all is the same
pub record SameButPlaces (v w : ShelvesView) : Type 0 where
  pub setup : w.setup ≡ v.setup
  pub works : w.failed ≡ v.failed
  pub end : w.end ≡ v.end
  pub windows : w.windows ≡ v.windows
  pub as_many : length w.shelves ≡ length v.shelves
  pub visits : (core : ℕ) (s t : ShelfView) → IsShelfOf v core s → IsShelfOf w core t → t.visits ≡ s.visits
