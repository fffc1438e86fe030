-- What contracts see of a world: its setup, its cores in core order, and the boxes between them.
use Rattle.std.specs.Prelude.{◌≡◌, ◌≢◌, ◌⊎◌, ℕ, ◌<◌, Bool, true, false, List, length, Some, slice_get}
use Rattle.journal.specs.SetupView.{SetupView}
use Rattle.journal.specs.IsSetup.{IsSetup}
use Rattle.parcel.specs.PlainBoxesView.{PlainBoxesView, box_at}
use Rattle.core_loop.specs.CoreView.{CoreView, windows_of, posted_of, taken_of, IsOtherCore}
use Rattle.core_loop.specs.WorldState.{IsInStep}

pub record WorldView : Type 0 where
  pub setup : SetupView
  pub cores : List CoreView
  pub boxes : PlainBoxesView
  -- a core found no memory, and no run goes on
  pub failed : Bool

-- c is the core of this number
abbrev pub IsCoreOf : WorldView → ℕ → CoreView → Type 0
IsCoreOf w core c = slice_get w.cores core ≡ Some c

-- true of all worlds: one core for each of the setup, and boxes that stand where the cores' counts stand
pub record IsWorld (w : WorldView) : Type 0 where
  pub boxes : w.boxes.setup ≡ w.setup
  pub one_a_core : length w.cores ≡ w.setup.cores
  pub setups : (core : ℕ) (c : CoreView) → IsCoreOf w core c → c.setup ≡ w.setup
  pub numbers : (core : ℕ) (c : CoreView) → IsCoreOf w core c → c.number ≡ core
  pub posts : (core : ℕ) (c : CoreView) → IsCoreOf w core c
      → (other : ℕ) → IsOtherCore c other → (box_at w.boxes core other).posted ≡ posted_of c other
  pub takes : (core : ℕ) (c : CoreView) → IsCoreOf w core c
      → (other : ℕ) → IsOtherCore c other → (box_at w.boxes other core).taken ≡ taken_of c other
  pub works : w.failed ≡ false → (core : ℕ) (c : CoreView) → IsCoreOf w core c → c.failed ≡ false
  pub is_setup : IsSetup w.setup
  pub in_step : w.failed ≡ false → (core : ℕ) (c : CoreView) → IsCoreOf w core c → IsInStep c
