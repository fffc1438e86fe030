-- What contracts see of what a run with moves comes to.
use Rattle.std.specs.Prelude.{ℕ, List}
use Rattle.settle.specs.OutcomeView.{OutcomeView}

pub record RanView : Type 0 where
  pub outcome : OutcomeView
  -- the windows that were run, and the moves before one of them
  pub windows : ℕ
  pub moved : ℕ
  -- the visits that each core ran, in core order
  pub visits : List ℕ
