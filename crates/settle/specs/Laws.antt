-- What holds of outcomes.
use Rattle.std.specs.Prelude.{◌≡◌, ℕ, ◌+◌, List, length}
use Rattle.journal.specs.declared.visit.Visit.{Visit}
use Rattle.journal.specs.SetupView.{SetupView}
use Rattle.journal.specs.Journal.{journal_of}
use Rattle.journal.specs.Laws.{bare}
use Rattle.settle.specs.OutcomeView.{OutcomeView}
use Rattle.settle.specs.IsOutcome.{IsOutcome}

-- all that is written of two outcomes is the same
pub record IsSameOutcome (o p : OutcomeView) : Type 0 where
  pub leaving : o.leaving ≡ p.leaving
  pub dropped : o.dropped ≡ p.dropped
  pub pipe_counts : o.pipe_counts ≡ p.pipe_counts

-- a setup, the list of its visits and the packets' bytes have one outcome
abbrev pub OutcomesAgree : Type 0
OutcomesAgree =
    (S : SetupView) (visits : List Visit) (bytes : List (List ℕ)) (o p : OutcomeView)
    → IsOutcome S visits bytes o → IsOutcome S visits bytes p → IsSameOutcome o p

-- each packet of the setup left or was dropped, once
abbrev pub PacketsAreCounted : Type 0
PacketsAreCounted =
    (S : SetupView) (visits : List Visit) (bytes : List (List ℕ)) (o : OutcomeView)
    → IsOutcome S visits bytes o → length o.leaving + length o.dropped ≡ length S.packets

-- setups that differ in cores, owners and entry cores alone have one outcome
abbrev pub OutcomesReadNoCore : Type 0
OutcomesReadNoCore =
    (S R : SetupView) (bytes : List (List ℕ)) (o p : OutcomeView) → bare S ≡ bare R
    → IsOutcome S (journal_of S) bytes o → IsOutcome R (journal_of R) bytes p → IsSameOutcome o p
