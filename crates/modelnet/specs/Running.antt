-- What a run over a topology makes of it, a trace and a directory: the bytes of the trace that leaves, the report, and the cluster
-- report.
use Rattle.std.specs.Prelude.{◌≡◌, ◌≤◌, ◌*◌, ℕ, Bool, true, false, List, [], ◌∷◌, length, All, Option}
use Rattle.mn_base.specs.declared.limits.TheConstants.{PACKET_BYTES_MAX}
use Rattle.topo.specs.TopologyView.{TopologyView}
use Rattle.gml_reader.specs.Texts.{Reads}
use Rattle.pcap_io.specs.Capture.{Capture}
use Rattle.pcap_io.specs.Writing.{pcap_text}
use Rattle.pcapng_in.specs.CaptureFile.{SaysTrace}
use Rattle.journal.specs.SetupView.{SetupView}
use Rattle.journal.specs.Journal.{journal_of}
use Rattle.parcel.specs.CoreResultView.{CoreResultView}
use Rattle.parcel.specs.Results.{AreResults}
use Rattle.parcel.specs.Windows.{window_count}
use Rattle.core_loop.specs.TallyView.{TallyView, added}
use Rattle.settle.specs.OutcomeView.{OutcomeView}
use Rattle.settle.specs.IsOutcome.{IsOutcome}
use Rattle.report.specs.Cluster.{cluster_text}
use Rattle.report.specs.Report.{report_text}
use Rattle.report.specs.Traces.{trace_of}
use Rattle.plan.specs.declared.faults.PlanFault.{PlanFault}
use Rattle.plan.specs.declared.options.Options.{Options}
use Rattle.plan.specs.Faults.{PlanFirst}
use Rattle.plan.specs.PlannedView.{PlannedView}
use Rattle.plan.specs.Setups.{IsPlan}
use Rattle.mn_words.specs.Order.{RunView}

-- what an order asks of a plan
abbrev pub options_of : RunView → Options
options_of order = record { mode = order.mode; cores = order.cores; seed = order.seed; tick_ns = order.tick_ns; loss = order.loss }

-- the bytes say a topology and a trace, in either capture format, and this is their plan with the directory text, if there is one
pub record Plans (options : Options) (topology trace : List ℕ) (directory : Option (List ℕ)) (planned : PlannedView) : Type 0 where
  pub target : TopologyView
  pub capture : Capture
  pub reads : Reads topology target
  pub says : SaysTrace trace capture
  pub plan : IsPlan target capture options directory planned

-- the bytes say a topology and a trace, and this is why they have no plan with the directory text, if there is one
pub record HasPlanFault (options : Options) (topology trace : List ℕ) (directory : Option (List ℕ)) (fault : PlanFault) : Type 0 where
  pub target : TopologyView
  pub capture : Capture
  pub reads : Reads topology target
  pub says : SaysTrace trace capture
  pub first : PlanFirst target options directory fault

-- By the one journal of the setup: each bound packet that leaves stands once in the trace written, with its own bytes, at the tick of
-- its fate; each that is dropped has its line in the report, with the pipe, the tick and the cause; and each packet that isn't bound
-- has its line there, too.
pub record IsRunOf (planned : PlannedView) (out report : List ℕ) : Type 0 where
  pub outcome : OutcomeView
  pub outcome_is : IsOutcome planned.setup (journal_of planned.setup) planned.bytes outcome
  pub out_is : out ≡ pcap_text (trace_of planned.setup outcome.leaving)
  pub report_is : report ≡ report_text outcome planned.unbounds

-- the cluster report, where it is asked for
abbrev pub cluster_reports : Bool → SetupView → List (List ℕ)
cluster_reports true S = cluster_text S ∷ []
cluster_reports false S = []

-- all cores of a setup have come to their end: so many cores, windows and visits more are in the tally
abbrev pub CountsRun : SetupView → TallyView → TallyView → Type 0
CountsRun S old new = new ≡ added old S.cores (S.cores * window_count S) (length (journal_of S))

-- what can be run and written: each packet of the setup has its bytes, and none is longer than a packet may be
pub record IsRunnable (planned : PlannedView) : Type 0 where
  pub each_has_bytes : length planned.bytes ≡ length planned.setup.packets
  pub short : All (λ bytes. length bytes ≤ PACKET_BYTES_MAX) planned.bytes

-- these are the results of all cores of a setup, and no packet of it is longer than a packet may be
pub record HaveShortBytes (S : SetupView) (results : List CoreResultView) : Type 0 where
  pub bytes : List (List ℕ)
  pub results_are : AreResults S bytes results
  pub short : All (λ b. length b ≤ PACKET_BYTES_MAX) bytes

-- this is the outcome of a setup, and no packet of it is longer than a packet may be
pub record HasShortBytes (S : SetupView) (outcome : OutcomeView) : Type 0 where
  pub bytes : List (List ℕ)
  pub outcome_is : IsOutcome S (journal_of S) bytes outcome
  pub short : All (λ b. length b ≤ PACKET_BYTES_MAX) bytes
