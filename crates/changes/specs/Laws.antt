-- What holds of the definitions.
use Rattle.std.specs.Prelude.{ℕ, ◌≡◌, ◌⊎◌, List}
use Rattle.changes.specs.declared.faults.ChangesFault.{ChangesFault}
use Rattle.changes.specs.SplitView.{SplitView}
use Rattle.changes.specs.Splits.{SplitsTo}
use Rattle.changes.specs.Faults.{ChangesFirst}

-- each text says something or has a first fault
abbrev pub EachTextIsAnswered : Type 0
EachTextIsAnswered =
    (text : List ℕ) (cores pipes : ℕ)
    → ((split : SplitView) × SplitsTo text cores pipes split) ⊎ ((fault : ChangesFault) × ChangesFirst text cores pipes fault)

-- a text that says something has no fault
abbrev pub NeverBoth : Type 0
NeverBoth =
    (text : List ℕ) (cores pipes : ℕ) (split : SplitView) (fault : ChangesFault)
    → SplitsTo text cores pipes split → ChangesFirst text cores pipes fault → ⊥

-- a text says one thing at most
abbrev pub OneReading : Type 0
OneReading =
    (text : List ℕ) (cores pipes : ℕ) (split other : SplitView)
    → SplitsTo text cores pipes split → SplitsTo text cores pipes other → split ≡ other

-- a text has one first fault at most
abbrev pub OneFault : Type 0
OneFault =
    (text : List ℕ) (cores pipes : ℕ) (fault other : ChangesFault)
    → ChangesFirst text cores pipes fault → ChangesFirst text cores pipes other → fault ≡ other
