-- What contracts see of a payload: whose bytes, and the bytes.
use Rattle.std.specs.Prelude.{ℕ, List}

pub record PayloadView : Type 0 where
  pub packet : ℕ
  pub bytes : List ℕ
