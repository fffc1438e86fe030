-- What contracts see of the words of one pipe.
use Rattle.std.specs.Prelude.{ℕ}

pub record PipeWordsView : Type 0 where
  pub seed : ℕ
  pub pipe : ℕ
