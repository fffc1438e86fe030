-- What `migrate` makes of a plan and its moves: the output trace and the report of the run, which read no moves, and on the screen what
-- became of the moves.
use Rattle.std.specs.Prelude.{◌≡◌, ◌<◌, ◌≤◌, ℕ, List, [], ◌∷◌, length, map, take, All, Some, slice_get}
use Rattle.journal.specs.SetupView.{SetupView}
use Rattle.migrate.specs.declared.moves.Move.{Move}
use Rattle.migrate.specs.Moves.{Moves}
use Rattle.mn_words.specs.declared.order.MoveSpec.{MoveSpec}
use Rattle.mn_words.specs.Order.{MigrateView}
use Rattle.plan.specs.PlannedView.{PlannedView}
use Rattle.report.specs.Moves.{moves_text}
use Rattle.modelnet.specs.declared.status.Status.{Status}
use Rattle.modelnet.specs.declared.status.Status.TheVariants.{BadMove}
use Rattle.modelnet.specs.Planning.{PlanningView, PlansAsked, planning_refuses}
use Rattle.modelnet.specs.Running.{IsRunOf}

abbrev pub migrate_planning : MigrateView → PlanningView
migrate_planning order = record {
  topology = order.topology;
  trace = order.trace;
  directory = order.directory;
  options = record { mode = order.mode; cores = order.cores; seed = order.seed; tick_ns = order.tick_ns; loss = order.loss };
}

-- the move of a word
abbrev pub move_of : MoveSpec → Move
move_of word = record { window = word.window; pipe = word.pipe; core = word.core }

-- of these moves this one, counted from 0, is the first whose pipe isn't one of so many
pub record IsFirstBadMove (moves : List MoveSpec) (pipes number : ℕ) : Type 0 where
  pub move : MoveSpec
  pub at : slice_get moves number ≡ Some move
  pub no_pipe : pipes ≤ move.pipe
  pub before : All (λ m. m.pipe < pipes) (take number moves)

-- the moves are refused by that one
abbrev pub RefusesMoves : List MoveSpec → ℕ → Status → Type 0
RefusesMoves moves pipes (BadMove number) = IsFirstBadMove moves pipes number
RefusesMoves moves pipes refusal = ⊥

-- the inputs have a plan, and this move names no pipe of it
pub record NamesNoPipe (order : MigrateView) (topology trace : List ℕ) (rest : List (List ℕ)) (number : ℕ) : Type 0 where
  pub planned : PlannedView
  pub plans : PlansAsked (migrate_planning order) topology trace rest planned
  pub first : IsFirstBadMove order.moves (length planned.setup.pipes) number

abbrev pub migrate_refuses : MigrateView → List (List ℕ) → Status → Type 0
migrate_refuses order (topology ∷ trace ∷ rest) (BadMove number) = NamesNoPipe order topology trace rest number
migrate_refuses order read refusal = planning_refuses (migrate_planning order) read refusal

-- what became of the moves
pub record TellsMoves (S : SetupView) (moves : List MoveSpec) (screen : List ℕ) : Type 0 where
  pub windows : ℕ
  pub moved : ℕ
  pub visits : List ℕ
  pub run : Moves S (map move_of moves) windows moved visits
  pub screen_is : screen ≡ moves_text windows moved visits

-- what is written of a plan: each move names a pipe of it
pub record IsMovedRun (order : MigrateView) (planned : PlannedView) (out report screen : List ℕ) : Type 0 where
  pub pipes : All (λ m. m.pipe < length planned.setup.pipes) order.moves
  pub run : IsRunOf planned out report
  pub moves : TellsMoves planned.setup order.moves screen

pub record SaysMigrated (order : MigrateView) (topology trace : List ℕ) (rest : List (List ℕ)) (out report screen : List ℕ) : Type 0 where
  pub planned : PlannedView
  pub plans : PlansAsked (migrate_planning order) topology trace rest planned
  pub run : IsMovedRun order planned out report screen

abbrev pub migrate_writes : MigrateView → List (List ℕ) → List (List ℕ) → Type 0
migrate_writes order (topology ∷ trace ∷ rest) (out ∷ report ∷ screen ∷ []) = SaysMigrated order topology trace rest out report screen
migrate_writes order read written = ⊥
