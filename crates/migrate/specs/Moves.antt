-- Runs in which pipes move to other cores between windows: who owns the pipes in each window, where windows start, and which core runs
-- each visit.
use Rattle.std.specs.Prelude.{◌≡◌, ℕ, zero, suc, ◌+◌, ◌<◌, ◌≤◌, ◌==◌, nat_lt, nat_le, List, length, map, filter, fold, Some, slice_get, slice_index, slice_set}
use Rattle.std.specs.List.{AllZip, range_with_len}
use Rattle.journal.specs.declared.visit.Visit.{Visit}
use Rattle.journal.specs.SetupView.{SetupView}
use Rattle.journal.specs.Journal.{journal_of}
use Rattle.parcel.specs.declared.counts.CoreCounts.{CoreCounts}
use Rattle.parcel.specs.Lookahead.{lookahead_of}
use Rattle.parcel.specs.Laws.{IsLeastFrom}
use Rattle.parcel.specs.Owners.{owned_by}
use Rattle.migrate.specs.declared.moves.Move.{Move}

-- the owners with one pipe moved
abbrev pub moved_owners : List ℕ → Move → List ℕ
moved_owners owners m = slice_set owners m.pipe m.core

-- the owners in the window of a number: those of the setup after all moves with a window of at most that, in order
abbrev pub owners_in : SetupView → List Move → ℕ → List ℕ
owners_in S moves window = fold moved_owners S.owners (filter (λ m. nat_le m.window window) moves)

-- the length of that window: the lookahead with these owners
abbrev pub len_in : SetupView → List Move → ℕ → ℕ
len_in S moves window = lookahead_of (owned_by S (owners_in S moves window))

-- the window of a number starts at this tick: the first at the least tick of all visits, and each other at the least tick of a visit
-- that is at the end of the one before it, or later
abbrev pub IsStart : SetupView → List Move → ℕ → ℕ → Type 0
IsStart S moves zero start = IsLeastFrom S 0 start
IsStart S moves (suc window) start =
    (before : ℕ) × IsStart S moves window before × IsLeastFrom S (before + len_in S moves window) start

-- so many windows have a start
pub record HasWindows (S : SetupView) (moves : List Move) (windows : ℕ) : Type 0 where
  pub starts : (window : ℕ) → window < windows → (start : ℕ) × IsStart S moves window start
  pub ends : (start : ℕ) → IsStart S moves windows start → ⊥

-- a visit is in the window of this number
pub record IsOfWindow (S : SetupView) (moves : List Move) (window : ℕ) (v : Visit) : Type 0 where
  pub start : ℕ
  pub starts : IsStart S moves window start
  pub low : start ≤ v.tick
  pub high : v.tick < start + len_in S moves window

-- the core that owns the pipe of a visit in the window of the visit
abbrev pub IsRunBy : SetupView → List Move → Visit → ℕ → Type 0
IsRunBy S moves v core = (window : ℕ) × IsOfWindow S moves window v × (slice_index (owners_in S moves window) v.pipe ≡ core)

-- how many moves have a window below this number
abbrev pub moves_below : List Move → ℕ → ℕ
moves_below moves windows = length (filter (λ m. nat_lt m.window windows) moves)

-- how many visits each core ran, where `cores` names the core of each visit
abbrev pub visits_each : ℕ → List ℕ → List ℕ
visits_each many cores = map (λ core. length (filter (λ c. c == core) cores)) (range_with_len 0 many)

-- what a run with these moves comes to: its windows, the moves that were made before one of them, and the visits that each core ran
pub record Moves (S : SetupView) (moves : List Move) (windows moved : ℕ) (visits : List ℕ) : Type 0 where
  pub windows_are : HasWindows S moves windows
  pub moved_are : moved ≡ moves_below moves windows
  -- the core that ran each visit of the journal, in the journal's order
  pub cores : List ℕ
  pub run_by : AllZip (IsRunBy S moves) (journal_of S) cores
  pub visits_are : visits ≡ visits_each S.cores cores

-- what a core did in a run of so many windows with these moves, where it ran so many visits: the pipes that it owns at the end, the
-- packets that entered there, its visits, no notes to others, and the windows
abbrev pub counts_with_moves : SetupView → List Move → ℕ → ℕ → ℕ → CoreCounts
counts_with_moves S moves windows core visits = record {
  pipes = length (filter (λ owner. owner == core) (owners_in S moves windows));
  entered = length (filter (λ p. p.core == core) S.packets);
  visits = visits;
  arrivals = 0;
  settles = 0;
  windows = windows;
}

-- these are the counts of all cores, in core order, where each ran so many visits
pub record AreCountsWithMoves (S : SetupView) (moves : List Move) (windows : ℕ) (visits : List ℕ) (cores : List CoreCounts) : Type 0 where
  pub one_a_core : length cores ≡ S.cores
  pub visits_each : length visits ≡ S.cores
  pub each : (core many : ℕ) → slice_get visits core ≡ Some many
      → slice_get cores core ≡ Some (counts_with_moves S moves windows core many)

-- a run with these moves comes to one thing
abbrev pub MovesAreOne : SetupView → Type 0
MovesAreOne S =
    (moves : List Move) (windows others moved more : ℕ) (visits counts : List ℕ) → Moves S moves windows moved visits
    → Moves S moves others more counts → (windows ≡ others) × (moved ≡ more) × (visits ≡ counts)
