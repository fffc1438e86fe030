-- What contracts see of a split text.
use Rattle.std.specs.Prelude.{ℕ, List}
use Rattle.changes.specs.declared.split.Change.{Change}

-- a directory text of the first version, and the changes
pub record SplitView : Type 0 where
  pub directory : List ℕ
  pub changes : List Change
