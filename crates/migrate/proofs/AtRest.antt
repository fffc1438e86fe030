-- Shelves between two calls.
use Rattle.std.proofs.Common.{◌≡◌, ℕ, ◌≤◌, false, List}
use Rattle.journal.specs.IsSetup.{IsSetup}
use Rattle.journal.proofs.Orderly.{IsGrowing}
use Rattle.migrate.specs.ShelvesView.{ShelfView, ShelvesView, IsShelfOf}
use Rattle.migrate.specs.declared.shelves.Shelves.TheInside.{Inside}
use Rattle.migrate.specs.Windows.{visits_before}
use Rattle.migrate.specs.Standing.{ShelvesStand}
use Rattle.migrate.specs.Inside.{shelves_view, AreShelves}

-- they stand for these bytes, each window had a visit, and no core ran more visits than were made
pub record AtRest (v : ShelvesView) (bytes : List (List ℕ)) : Type 0 where
  pub is : IsSetup v.setup
  pub grows : IsGrowing v.setup (visits_before v.setup v.end)
  pub stands : ShelvesStand bytes v
  pub few : (core : ℕ) (t : ShelfView) → IsShelfOf v core t → t.visits ≤ v.made
  pub windows : v.windows ≤ v.made

pub at-rest : {w : Inside} → AreShelves w → w.failed ≡ false → {bytes : List (List ℕ)} → ShelvesStand bytes (shelves_view w)
    → AtRest (shelves_view w) bytes
at-rest i works s = record {
  is = i.is_setup;
  grows = i.growing works;
  stands = s;
  few = i.few_visits works;
  windows = i.few works;
}

-- for the bytes that their type knows
pub rest-known : {w : Inside} (i : AreShelves w) (works : w.failed ≡ false) → AtRest (shelves_view w) (i.stands works).0
rest-known i works = at-rest i works (i.stands works).1
