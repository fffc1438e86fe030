-- The fields of the parts of a run.
use Rattle.std.specs.Prelude.{◌≡◌, ℕ, Some, slice_get, ◌^◌, ◌-◌, ◌<◌, ◌≤◌, false, List, [], Option, None}
use Rattle.std.specs.List.{cons_option}
use Rattle.mn_base.specs.Among.{Among}
use Rattle.mn_base.specs.declared.due.Due.{Due}
use Rattle.pipe.specs.Scheme.{IsGrowingBy}
use Rattle.journal.specs.IsSetup.{IsSetup}
use Rattle.journal.specs.IsJournal.{scheme_of}
use Rattle.deadline_heap.specs.Canonical.{IsCanonical}
use Rattle.migrate.specs.declared.shelves.Shelves.TheInside.{Inside}
use Rattle.migrate.specs.ShelvesView.{ShelfView, ShelvesView}
use Rattle.migrate.specs.Windows.{visits_before}
use Rattle.migrate.specs.Standing.{ShelvesStand}

-- true of all due lists: nothing is after a first one that isn't there, and each tick is below the greatest one
pub record AreInSight (first : Option Due) (later : List Due) : Type 0 where
  pub canonical : IsCanonical (cons_option first later)
  pub none : first ≡ None → later ≡ []
  pub ticks : (x : Due) → Among x (cons_option first later) → x.tick < 2 ^ 64 - 1

abbrev pub shelves_view : Inside → ShelvesView
shelves_view w = record {
  setup = w.setup.now;
  owners = w.owners.items;
  counts = w.counts.items;
  shelves = w.shelves.items;
  end = w.end;
  windows = w.windows;
  made = w.made;
  failed = w.failed;
}

-- true of all shelves: as long as no call found no memory, they stand for the journal, whatever the bytes are of which their payloads
-- are a part, and each window had a visit
pub record AreShelves (w : Inside) : Type 0 where
  pub is_setup : IsSetup w.setup.now
  pub stands : w.failed ≡ false → (bytes : List (List ℕ)) × ShelvesStand bytes (shelves_view w)
  pub few : w.failed ≡ false → w.windows ≤ w.made
  pub few_visits : w.failed ≡ false → (core : ℕ) (s : ShelfView) → slice_get w.shelves.items core ≡ Some s → s.visits ≤ w.made
  -- what is made grows into the journal
  pub growing : w.failed ≡ false → IsGrowingBy (scheme_of w.setup.now) (visits_before w.setup.now w.end)
