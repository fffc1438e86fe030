-- What a chain makes of a trace: the bytes of the trace that leaves, and the report.
use Rattle.std.specs.Prelude.{◌≡◌, ℕ, List, [], map}
use Rattle.pcap_io.specs.Capture.{Capture}
use Rattle.pcap_io.specs.Writing.{pcap_text}
use Rattle.pcapng_in.specs.CaptureFile.{SaysTrace}
use Rattle.journal.specs.SetupView.{SetupView}
use Rattle.journal.specs.Journal.{journal_of}
use Rattle.settle.specs.OutcomeView.{OutcomeView}
use Rattle.settle.specs.IsOutcome.{IsOutcome}
use Rattle.report.specs.Traces.{trace_of}
use Rattle.report.specs.Report.{report_text}
use Rattle.mn_words.specs.Order.{ChainView}
use Rattle.modelnet.specs.Chain.{IsChainSetup}

-- By the one journal of the chain's setup: each packet that leaves stands once in the trace written, with its own bytes, at the
-- tick of its fate; each packet that is dropped has its line in the report. Every packet of a chain is bound.
pub record IsChainRun (order : ChainView) (trace : Capture) (out_text report : List ℕ) : Type 0 where
  pub setup : SetupView
  pub outcome : OutcomeView
  pub setup_is : IsChainSetup order trace setup
  pub outcome_is : IsOutcome setup (journal_of setup) (map (λ p. p.bytes) trace.packets) outcome
  pub out_is : out_text ≡ pcap_text (trace_of setup outcome.leaving)
  pub report_is : report ≡ report_text outcome []

-- the bytes say a trace, in either capture format, and these are the bytes that its run writes
pub record SaysRun (order : ChainView) (text out_text report : List ℕ) : Type 0 where
  pub trace : Capture
  pub says : SaysTrace text trace
  pub run : IsChainRun order trace out_text report
