-- One run on other cores: what it writes is the same.
use Rattle.std.specs.Prelude.{◌≡◌, ℕ, false, List, ◌∷◌, All}
use Rattle.changes.specs.Faults.{is_second}
use Rattle.plan.specs.PlannedView.{PlannedView}
use Rattle.mn_words.specs.Order.{RunView}
use Rattle.modelnet.specs.Running.{IsRunOf}
use Rattle.modelnet.specs.TheCommands.{RunPlans, run_writes}

-- the orders ask for one run: they may differ in cores, directory and turns, in the cluster report, and in the names of files
pub record AskForOneRun (one other : RunView) : Type 0 where
  pub mode : one.mode ≡ other.mode
  pub seed : one.seed ≡ other.seed
  pub tick_ns : one.tick_ns ≡ other.tick_ns
  pub loss : one.loss ≡ other.loss

-- The output trace and the report of a run depend on no core: where two orders ask for one run, the bytes of the topology and the
-- trace are the same, and pipes change alike, both write the same. Cores, owners, entry cores, the order of turns and their number
-- may be others, and one of the two may have one core.
abbrev pub CoresChangeNoOutput : Type 0
CoresChangeNoOutput =
    (one other : RunView) (topology trace : List ℕ) (rest more : List (List ℕ)) (planned others : PlannedView) (out report : List ℕ)
    (out' report' : List ℕ) → AskForOneRun one other
    → RunPlans one topology trace rest planned → RunPlans other topology trace more others
    → planned.setup.changes ≡ others.setup.changes
    → IsRunOf planned out report → IsRunOf others out' report' → (out ≡ out') × (report ≡ report')

-- no text of a directory says that a pipe changes
abbrev pub SayNoChange : List (List ℕ) → Type 0
SayNoChange directories = All (λ text. is_second text ≡ false) directories

-- So it is where no directory is read, or one that says no change, by either order.
abbrev pub OwnersChangeNoOutput : Type 0
OwnersChangeNoOutput =
    (one other : RunView) (topology trace : List ℕ) (rest more : List (List ℕ)) (out report out' report' : List ℕ)
    (screens screens' : List (List ℕ)) → AskForOneRun one other → SayNoChange rest → SayNoChange more
    → run_writes one (topology ∷ trace ∷ rest) (out ∷ report ∷ screens)
    → run_writes other (topology ∷ trace ∷ more) (out' ∷ report' ∷ screens') → (out ≡ out') × (report ≡ report')
