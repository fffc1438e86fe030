-- What `journal` writes and what `check` accepts: the text of the one journal of a plan.
use Rattle.std.specs.Prelude.{◌≡◌, ℕ, List, [], ◌∷◌, ◌++◌, length, Option, Some, None, codes}
use Rattle.std.specs.Fmt.{decimal}
use Rattle.journal.specs.Journal.{journal_of}
use Rattle.journal_check.specs.declared.fault.JournalFault.{JournalFault}
use Rattle.journal_check.specs.Faults.{JournalFirst}
use Rattle.journal_check.specs.Texts.{journal_out}
use Rattle.plan.specs.declared.faults.PlanFault.{PlanFault}
use Rattle.plan.specs.PlannedView.{PlannedView}
use Rattle.mn_words.specs.Order.{JournalView, CheckView}
use Rattle.modelnet.specs.declared.status.Status.{Status}
use Rattle.modelnet.specs.declared.status.Status.TheVariants.{BadPlan, BadJournal}
use Rattle.modelnet.specs.Planning.{PlanningView, PlansAsked, reading_refuses}
use Rattle.modelnet.specs.Running.{Plans, HasPlanFault}

abbrev pub journal_planning : JournalView → PlanningView
journal_planning order = record {
  topology = order.topology;
  trace = order.trace;
  directory = order.directory;
  options = record { mode = order.mode; cores = order.cores; seed = order.seed; tick_ns = order.tick_ns; loss = order.loss };
}

-- the text is that of the journal of the inputs' plan
pub record SaysJournal (order : JournalView) (topology trace : List ℕ) (rest : List (List ℕ)) (text : List ℕ) : Type 0 where
  pub planned : PlannedView
  pub plans : PlansAsked (journal_planning order) topology trace rest planned
  pub text_is : text ≡ journal_out (journal_of planned.setup)

abbrev pub journal_writes : JournalView → List (List ℕ) → List (List ℕ) → Type 0
journal_writes order (topology ∷ trace ∷ rest) (text ∷ []) = SaysJournal order topology trace rest text
journal_writes order read written = ⊥

abbrev pub check_planning : CheckView → PlanningView
check_planning order = record {
  topology = order.topology;
  trace = order.trace;
  directory = order.directory;
  options = record { mode = order.mode; cores = order.cores; seed = order.seed; tick_ns = order.tick_ns; loss = order.loss };
}

-- what was read after the trace is the text of the directory, where one is named, and then a journal
abbrev pub IsJournalRead : Option (List ℕ) → List (List ℕ) → Option (List ℕ) → List ℕ → Type 0
IsJournalRead None (text ∷ []) None journal = journal ≡ text
IsJournalRead (Some name) (directory ∷ text ∷ []) (Some given) journal = (given ≡ directory) × (journal ≡ text)
IsJournalRead named read given journal = ⊥

-- these inputs have this plan, and this is the journal that is looked at
pub record HasChecked (order : CheckView) (topology trace : List ℕ) (rest : List (List ℕ)) (planned : PlannedView) (journal : List ℕ) : Type 0 where
  pub directory : Option (List ℕ)
  pub given : IsJournalRead order.directory rest directory journal
  pub plans : Plans (check_planning order).options topology trace directory planned

-- these inputs have no plan, for this fault
pub record CannotCheck (order : CheckView) (topology trace : List ℕ) (rest : List (List ℕ)) (fault : PlanFault) : Type 0 where
  pub directory : Option (List ℕ)
  pub journal : List ℕ
  pub given : IsJournalRead order.directory rest directory journal
  pub has : HasPlanFault (check_planning order).options topology trace directory fault

-- the journal isn't that of the plan, and this is where it first differs
pub record IsWrongJournal (order : CheckView) (topology trace : List ℕ) (rest : List (List ℕ)) (fault : JournalFault) : Type 0 where
  pub planned : PlannedView
  pub journal : List ℕ
  pub checked : HasChecked order topology trace rest planned journal
  pub first : JournalFirst (journal_of planned.setup) journal fault

-- When all was read, what has no plan is refused, and then a wrong journal.
abbrev pub check_refuses : CheckView → List (List ℕ) → Status → Type 0
check_refuses order (topology ∷ trace ∷ rest) (BadPlan fault) = CannotCheck order topology trace rest fault
check_refuses order (topology ∷ trace ∷ rest) (BadJournal fault) = IsWrongJournal order topology trace rest fault
check_refuses order read refusal = reading_refuses read refusal

-- the line that says that a journal is right, with the number of its visits
unfoldable pub right_line : ℕ → List ℕ
right_line visits = codes "journal ok " ++ decimal visits ++ 10 ∷ []

-- the journal is that of the plan, and the screen says so
pub record SaysRight (order : CheckView) (topology trace : List ℕ) (rest : List (List ℕ)) (screen : List ℕ) : Type 0 where
  pub planned : PlannedView
  pub journal : List ℕ
  pub checked : HasChecked order topology trace rest planned journal
  pub right : journal ≡ journal_out (journal_of planned.setup)
  pub screen_is : screen ≡ right_line (length (journal_of planned.setup))

abbrev pub check_writes : CheckView → List (List ℕ) → List (List ℕ) → Type 0
check_writes order (topology ∷ trace ∷ rest) (screen ∷ []) = SaysRight order topology trace rest screen
check_writes order read written = ⊥
