-- What `workload` makes of a number: it generates a topology and a trace, emulates one over the other, and says in four lines what came
-- of it.
use Rattle.std.specs.Prelude.{◌≡◌, ℕ, List, length, None}
use Rattle.mn_base.specs.declared.limits.TheConstants.{TICK_NS_DEFAULT}
use Rattle.topo.specs.TopologyView.{TopologyView}
use Rattle.gml_reader.specs.Texts.{Reads, IsFirstFault}
use Rattle.pcap_io.specs.Writing.{pcap_text}
use Rattle.pcapng_in.specs.declared.fault.CaptureFault.{CaptureFault}
use Rattle.pcapng_in.specs.declared.fault.CaptureFault.TheVariants.{Pcap, Ng}
use Rattle.pcapng_in.specs.CaptureFile.{CaptureFirst}
use Rattle.distill.specs.declared.modes.Mode.TheVariants.{Hop}
use Rattle.journal.specs.declared.setup.LossBy.TheVariants.{Packet}
use Rattle.journal.specs.Journal.{journal_of}
use Rattle.settle.specs.OutcomeView.{OutcomeView}
use Rattle.settle.specs.IsOutcome.{IsOutcome}
use Rattle.core_loop.specs.TallyView.{TallyView}
use Rattle.report.specs.declared.summary.Generated.{Generated}
use Rattle.report.specs.Summary.{summary_text}
use Rattle.plan.specs.declared.options.Options.{Options}
use Rattle.plan.specs.PlannedView.{PlannedView}
use Rattle.workload.specs.Gml.{workload_gml}
use Rattle.workload.specs.Trace.{workload_trace}
use Rattle.mn_words.specs.declared.order.WorkloadOrder.{WorkloadOrder}
use Rattle.modelnet.specs.declared.status.Status.{Status}
use Rattle.modelnet.specs.declared.status.Status.TheVariants.{BadTopology, BadTrace, BadPlan, BadCapture}
use Rattle.modelnet.specs.Running.{Plans, HasPlanFault, CountsRun}

-- the two texts that the number stands for
abbrev pub generated_gml : WorkloadOrder → List ℕ
generated_gml order = workload_gml order.number

abbrev pub generated_pcap : WorkloadOrder → List ℕ
generated_pcap order = pcap_text (workload_trace order.number order.packets)

-- what is said of them
abbrev pub generated_by : WorkloadOrder → Generated
generated_by order = record {
  number = order.number;
  packets = order.packets;
  gml_len = length (generated_gml order);
  trace_len = length (generated_pcap order);
}

-- what is asked of their plan: each link is a pipe, and the number is the seed of the loss words
abbrev pub options_of_workload : WorkloadOrder → Options
options_of_workload order = record { mode = Hop; cores = order.cores; seed = order.number; tick_ns = TICK_NS_DEFAULT; loss = Packet }

abbrev pub PlansWorkload : WorkloadOrder → PlannedView → Type 0
PlansWorkload order planned = Plans (options_of_workload order) (generated_gml order) (generated_pcap order) None planned

-- the bytes say a topology, but no trace, for this fault
pub record HasTraceFault (topology trace : List ℕ) (fault : CaptureFault) : Type 0 where
  pub target : TopologyView
  pub reads : Reads topology target
  pub first : CaptureFirst trace fault

-- the first of these texts that isn't what it has to be is refused by its first fault, and then what has no plan
abbrev pub TextsRefused : Options → List ℕ → List ℕ → Status → Type 0
TextsRefused options topology trace (BadTopology fault) = IsFirstFault topology fault
TextsRefused options topology trace (BadTrace fault) = HasTraceFault topology trace (Pcap fault)
TextsRefused options topology trace (BadCapture fault) = HasTraceFault topology trace (Ng fault)
TextsRefused options topology trace (BadPlan fault) = HasPlanFault options topology trace None fault
TextsRefused options topology trace refusal = ⊥

-- the texts of the number are refused so
abbrev pub WorkloadRefused : WorkloadOrder → Status → Type 0
WorkloadRefused order status = TextsRefused (options_of_workload order) (generated_gml order) (generated_pcap order) status

-- the text is the summary of this input, by the outcome of its plan
pub record IsSummaryOf (input : Generated) (planned : PlannedView) (text : List ℕ) : Type 0 where
  pub outcome : OutcomeView
  pub outcome_is : IsOutcome planned.setup (journal_of planned.setup) planned.bytes outcome
  pub text_is : text ≡ summary_text input outcome planned.unbounds

-- the screen has the summary of the texts of the number
pub record SaysWorkload (order : WorkloadOrder) (screen : List ℕ) : Type 0 where
  pub planned : PlannedView
  pub plans : PlansWorkload order planned
  pub summary : IsSummaryOf (generated_by order) planned screen

-- the cores, windows and visits of the run of their plan are in the tally
pub record AddsWorkload (order : WorkloadOrder) (old new : TallyView) : Type 0 where
  pub planned : PlannedView
  pub plans : PlansWorkload order planned
  pub counts : CountsRun planned.setup old new
