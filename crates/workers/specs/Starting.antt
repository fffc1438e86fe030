-- The cores of a setup before their first turns.
use Rattle.std.specs.Prelude.{◌≡◌, ℕ, List, length, Some, slice_get}
use Rattle.journal.specs.SetupView.{SetupView}
use Rattle.payload_store.specs.StoreView.{StoreView}
use Rattle.core_loop.specs.CoreView.{CoreView}
use Rattle.core_loop.specs.WorldState.{CoreStands}
use Rattle.workers.specs.declared.station.Station.{Station}
use Rattle.core_loop.specs.Stocked.{AreBytesIn}

-- c is the core of this number, with its store of these
pub record IsAtStart (S : SetupView) (stores : List StoreView) (core : ℕ) (c : CoreView) : Type 0 where
  pub setup : c.setup ≡ S
  pub number : c.number ≡ core
  pub stands : (bytes : List (List ℕ)) → AreBytesIn S stores bytes → CoreStands bytes c

-- these are so many of them, in core order
pub record AreAtStart (S : SetupView) (stores : List StoreView) (many : ℕ) (all : List Station) : Type 0 where
  pub count : length all ≡ many
  pub each : (core : ℕ) (station : Station) → slice_get all core ≡ Some station → IsAtStart S stores core station.core
