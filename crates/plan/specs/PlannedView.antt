-- What contracts see of a plan.
use Rattle.std.specs.Prelude.{ℕ, List}
use Rattle.mn_base.specs.declared.causes.Unbound.{Unbound}
use Rattle.journal.specs.SetupView.{SetupView}

-- a setup, the bytes of its packets in order, and the other packets of the trace in order, each with its number and its cause
pub record PlannedView : Type 0 where
  pub setup : SetupView
  pub bytes : List (List ℕ)
  pub unbounds : List (ℕ × Unbound)
