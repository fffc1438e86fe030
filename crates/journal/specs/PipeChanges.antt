-- The changes of a setup, pipe by pipe.
use Rattle.std.specs.Prelude.{◌≡◌, ℕ, ◌<◌, List, length, slice_index_or}
use Rattle.mn_base.specs.declared.params.PipeParams.{PipeParams}
use Rattle.journal.specs.SetupView.{SetupView, changes_of}

-- a list for each pipe of the setup, with its changes
pub record AreChangesOf (S : SetupView) (lists : List (List (ℕ × PipeParams))) : Type 0 where
  pub count : length lists ≡ length S.pipes
  pub each : (pipe : ℕ) (d : List (ℕ × PipeParams)) → pipe < length lists → slice_index_or lists pipe d ≡ changes_of S pipe
