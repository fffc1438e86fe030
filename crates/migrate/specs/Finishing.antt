-- What cores did in a run in which pipes moved.
use Rattle.std.specs.Prelude.{◌≡◌, ℕ, ◌==◌, List, length, filter, Some, slice_get}
use Rattle.journal.specs.SetupView.{SetupView}
use Rattle.parcel.specs.declared.counts.CoreCounts.{CoreCounts}
use Rattle.migrate.specs.ShelvesView.{ShelfView, ShelvesView, IsShelfOf}

-- the pipes that the core owns, the packets that entered there, the visits that it ran, no notes to others, and the windows that were run
abbrev pub core_counts_of : SetupView → List ℕ → ℕ → ℕ → ShelfView → CoreCounts
core_counts_of S owners windows core s = record {
  pipes = length (filter (λ owner. owner == core) owners);
  entered = length (filter (λ p. p.core == core) S.packets);
  visits = s.visits;
  arrivals = 0;
  settles = 0;
  windows = windows;
}

-- these are the counts of all cores, in core order
pub record AreCoreCounts (w : ShelvesView) (cores : List CoreCounts) : Type 0 where
  pub one_a_core : length cores ≡ w.setup.cores
  pub each : (core : ℕ) (s : ShelfView) → IsShelfOf w core s
      → slice_get cores core ≡ Some (core_counts_of w.setup w.owners w.windows core s)
