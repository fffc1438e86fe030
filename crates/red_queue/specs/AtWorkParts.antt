-- The words and the keep of a pipe at work are its own.
use Rattle.std.specs.Prelude.{◌≡◌}
use Rattle.red_queue.specs.declared.at_work.AtWork.TheInside.{Inside}

pub record AreOwnParts (w : Inside) : Type 0 where
  pub losses : w.losses ≡ record { seed = (w.earlies).seed; pipe = w.number }
  pub earlies : (w.earlies).pipe ≡ w.number
  pub keep : w.keep ≡ (((w.pipe).params).base).keep
