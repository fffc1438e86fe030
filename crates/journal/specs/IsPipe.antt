-- Pipes of a setup at work, and the lists of visits that they stand for.
use Rattle.std.specs.Prelude.{◌≡◌, ℕ, ◌<◌, List, length, slice_index_or}
use Rattle.pipe.specs.PipeView.{PipeView, StandsFor}
use Rattle.journal.specs.declared.visit.Visit.{Visit}
use Rattle.journal.specs.SetupView.{SetupView, first_params, changes_of}
use Rattle.journal.specs.Steps.{visits_to}

-- what contracts see of a pipe at work
pub record SetupPipeView : Type 0 where
  pub number : ℕ
  -- the seed of its loss words
  pub seed : ℕ
  -- what it remembers of its visits
  pub memory : PipeView

-- it is the setup's pipe of its number, whatever it remembers
pub record IsOfSetup (S : SetupView) (m : SetupPipeView) : Type 0 where
  pub seed : m.seed ≡ S.seed
  pub first : m.memory.first ≡ first_params S m.number
  pub changes : m.memory.changes ≡ changes_of S m.number
  pub tick_ns : m.memory.tick_ns ≡ S.tick_ns

-- the setup's pipe of this number after the visits of J
pub record IsPipe (S : SetupView) (J : List Visit) (pipe : ℕ) (m : SetupPipeView) : Type 0 where
  pub number : m.number ≡ pipe
  pub of_setup : IsOfSetup S m
  pub stands : StandsFor m.memory (visits_to S pipe J)

-- the pipes of the setup after the visits of J, each at its number
pub record ArePipes (S : SetupView) (J : List Visit) (pipes : List SetupPipeView) : Type 0 where
  pub count : length pipes ≡ length S.pipes
  pub each : (pipe : ℕ) (d : SetupPipeView) → pipe < length pipes → IsPipe S J pipe (slice_index_or pipes pipe d)
