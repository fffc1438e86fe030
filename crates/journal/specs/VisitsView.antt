-- The visits of a journal, made one after the other.
use Rattle.std.specs.Prelude.{◌≡◌, List, ◌∷◌, ◌++◌}
use Rattle.journal.specs.declared.visit.Visit.{Visit}
use Rattle.journal.specs.SetupView.{SetupView}
use Rattle.journal.specs.Journal.{journal_of}

-- of which setup, and which were made so far
pub record VisitsView : Type 0 where
  pub setup : SetupView
  pub made : List Visit

-- after the visits of J the journal goes on with v
abbrev pub GoesOnWith : SetupView → List Visit → Visit → Type 0
GoesOnWith S J v = (rest : List Visit) × (journal_of S ≡ J ++ v ∷ rest)
