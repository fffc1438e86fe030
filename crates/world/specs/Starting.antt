-- The cores of a world before any turn.
use Rattle.std.specs.Prelude.{◌≡◌, ℕ, false, List, length, Some, slice_get}
use Rattle.journal.specs.SetupView.{SetupView}
use Rattle.payload_store.specs.StoreView.{StoreView}
use Rattle.core_loop.specs.CoreView.{CoreView, windows_of, posted_of, taken_of}
use Rattle.core_loop.specs.Stocked.{AreBytesOf}
use Rattle.core_loop.specs.WorldState.{IsInStep, CoreStands}

-- c is the core of this number, with its store of these: it has run no window, and has posted and taken nothing
pub record HasStarted (S : SetupView) (stores : List StoreView) (core : ℕ) (c : CoreView) : Type 0 where
  pub setup : c.setup ≡ S
  pub number : c.number ≡ core
  pub stands : (store : StoreView) (bytes : List (List ℕ)) → slice_get stores core ≡ Some store → AreBytesOf S core store bytes
      → CoreStands bytes c
  pub windows : windows_of c ≡ 0
  pub posted : (other : ℕ) → posted_of c other ≡ 0
  pub taken : (other : ℕ) → taken_of c other ≡ 0
  pub works : c.failed ≡ false
  pub in_step : IsInStep c

pub record CoresStarted (S : SetupView) (stores : List StoreView) (many : ℕ) (cores : List CoreView) : Type 0 where
  pub count : length cores ≡ many
  pub each : (core : ℕ) (c : CoreView) → slice_get cores core ≡ Some c → HasStarted S stores core c
