-- What contracts see of the cores of a run on one thread, whose pipes may move.
use Rattle.std.specs.Prelude.{◌≡◌, ℕ, ◌==◌, Bool, List, Option, Some, slice_get, slice_index}
use Rattle.std.specs.Map.{lookup}
use Rattle.mn_base.specs.declared.due.Due.{Due}
use Rattle.journal.specs.SetupView.{SetupView}
use Rattle.journal.specs.IsPipe.{SetupPipeView}
use Rattle.parcel.specs.declared.counts.PipeCounts.{PipeCounts}
use Rattle.parcel.specs.declared.core_result.Settled.{Settled}
use Rattle.payload_store.specs.StoreView.{StoreView}

-- what contracts see of one core
pub record ShelfView : Type 0 where
  -- its due visits, in canonical order
  pub due : List Due
  -- its pipes, each with its number, in no order
  pub pipes : List (ℕ × SetupPipeView)
  -- the packets that entered there: those that are settled, and the bytes of the others
  pub settled : List Settled
  pub store : StoreView
  -- how many visits it ran
  pub visits : ℕ

pub record ShelvesView : Type 0 where
  pub setup : SetupView
  -- the core that owns each pipe, and what became of the visits to each, by the pipes' numbers
  pub owners : List ℕ
  pub counts : List PipeCounts
  -- in core order
  pub shelves : List ShelfView
  -- the end of the last window, a tick
  pub end : ℕ
  -- how many windows are run, and how many visits are made
  pub windows : ℕ
  pub made : ℕ
  -- a call found no memory, and none but `abandon` does anything more
  pub failed : Bool

-- the pipe of a number among a core's pipes, if it is one of them
abbrev pub pipe_in : List (ℕ × SetupPipeView) → ℕ → Option SetupPipeView
pipe_in pipes pipe = lookup (λ number. pipe == number) pipes

-- s is the core of this number
abbrev pub IsShelfOf : ShelvesView → ℕ → ShelfView → Type 0
IsShelfOf w core s = slice_get w.shelves core ≡ Some s

-- the core that owns a pipe now
abbrev pub owner_now : ShelvesView → ℕ → ℕ
owner_now w pipe = slice_index w.owners pipe
