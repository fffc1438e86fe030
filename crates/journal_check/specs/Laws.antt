-- What holds of the definitions: a text is that of a list of visits, or it has one first fault.
use Rattle.std.specs.Prelude.{◌≡◌, ◌⊎◌, ℕ, List}
use Rattle.journal.specs.declared.visit.Visit.{Visit}
use Rattle.journal_check.specs.declared.fault.JournalFault.{JournalFault}
use Rattle.journal_check.specs.Texts.{journal_out}
use Rattle.journal_check.specs.Faults.{JournalFirst}

-- a text that isn't that of the visits has a first fault
abbrev pub EachTextIsAnswered : Type 0
EachTextIsAnswered =
    (visits : List Visit) (text : List ℕ) → (text ≡ journal_out visits) ⊎ ((fault : JournalFault) × JournalFirst visits text fault)

-- the text of the visits has no fault
abbrev pub NeverBoth : Type 0
NeverBoth =
    (visits : List Visit) (text : List ℕ) (fault : JournalFault)
    → text ≡ journal_out visits → JournalFirst visits text fault → ⊥

-- a text has one first fault at most
abbrev pub OneFault : Type 0
OneFault =
    (visits : List Visit) (text : List ℕ) (fault other : JournalFault)
    → JournalFirst visits text fault → JournalFirst visits text other → fault ≡ other
