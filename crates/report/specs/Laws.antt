-- What holds of the two outputs of a run.
use Rattle.std.specs.Prelude.{◌≡◌, ℕ, List}
use Rattle.mn_base.specs.declared.causes.Unbound.{Unbound}
use Rattle.journal.specs.SetupView.{SetupView}
use Rattle.journal.specs.Journal.{journal_of}
use Rattle.journal.specs.Laws.{bare}
use Rattle.settle.specs.OutcomeView.{OutcomeView}
use Rattle.settle.specs.IsOutcome.{IsOutcome}
use Rattle.report.specs.Report.{report_text}
use Rattle.report.specs.Traces.{trace_of}

-- two setups differ in cores, owners and entry cores alone
pub record DifferInCores (S R : SetupView) : Type 0 where
  pub runs : bare S ≡ bare R
  pub base_ns : S.base_ns ≡ R.base_ns
  pub link_type : S.link_type ≡ R.link_type

-- the outputs of these two outcomes are the same
pub record AreSameOutputs (S R : SetupView) (o p : OutcomeView) : Type 0 where
  pub trace : trace_of S o.leaving ≡ trace_of R p.leaving
  pub report : (unbounds : List (ℕ × Unbound)) → report_text o unbounds ≡ report_text p unbounds

abbrev pub OutputsReadNoCore : Type 0
OutputsReadNoCore =
    (S R : SetupView) (bytes : List (List ℕ)) (o p : OutcomeView) → DifferInCores S R
    → IsOutcome S (journal_of S) bytes o → IsOutcome R (journal_of R) bytes p → AreSameOutputs S R o p
