-- What pipes in a row that drop early make of a trace: the bytes of the trace that leaves, and the report.
use Rattle.std.specs.Prelude.{◌≡◌, ℕ, List, map, filter_map, AllPairs, Option, Some, None}
use Rattle.std.specs.List.{AllZip, zip}
use Rattle.std.specs.List.Sorted.{IsPermutation}
use Rattle.pcap_io.specs.Capture.{Capture}
use Rattle.pcap_io.specs.Writing.{pcap_text}
use Rattle.pcapng_in.specs.CaptureFile.{SaysTrace}
use Rattle.journal.specs.declared.setup.LossBy.TheVariants as loss
use Rattle.journal.specs.declared.setup.PacketPlan.{PacketPlan}
use Rattle.journal.specs.SetupView.{SetupView}
use Rattle.settle.specs.declared.outcome.Leaving.{Leaving}
use Rattle.settle.specs.IsOutcome.{LeavesBefore}
use Rattle.report.specs.Traces.{trace_of}
use Rattle.red_queue.specs.declared.fate.RedFate.{RedFate}
use Rattle.red_queue.specs.declared.fate.RedFate.TheVariants.{Left, Dropped}
use Rattle.red_queue.specs.declared.params.RedParams.{RedParams}
use Rattle.red_queue.specs.declared.setup.RedPacket.{RedPacket}
use Rattle.red_queue.specs.declared.visit.RedVisit.{RedVisit}
use Rattle.red_queue.specs.SetupView.{RedSetupView}
use Rattle.red_queue.specs.Journal.{red_journal_of}
use Rattle.red_queue.specs.Fates.{fates_by}
use Rattle.red_queue.specs.Report.{red_report_text}
use Rattle.mn_words.specs.declared.order.RedSpec.{RedSpec}
use Rattle.mn_words.specs.Order.{ChainView, RedView}
use Rattle.modelnet.specs.Chain.{IsPipeOf, IsChainSetup}

-- what `chain` is asked for with the pipes' base parameters
abbrev pub base_order : RedView → ChainView
base_order order = record {
  trace = order.trace;
  out = order.out;
  report = order.report;
  tick_ns = order.tick_ns;
  seed = order.seed;
  pipes = map (λ p. p.base) order.pipes;
  loss = loss.Packet;
}

-- the parameters are those of the word, and the base parameters those of `chain`
pub record IsRedPipeOf (tick_ns : ℕ) (pipe : RedSpec) (params : RedParams) : Type 0 where
  pub base : IsPipeOf tick_ns pipe.base params.base
  pub shift : params.shift ≡ pipe.shift
  pub min : params.min ≡ pipe.min
  pub max : params.max ≡ pipe.max
  pub early : params.early ≡ pipe.early

-- a packet as it enters
abbrev pub red_packet_of : PacketPlan → RedPacket
red_packet_of plan = record { entry_tick = plan.entry_tick; len = plan.len }

-- R is the setup of this order, whose packets enter as they do in the setup S of `chain`
pub record IsRedSetupOf (order : RedView) (S : SetupView) (R : RedSetupView) : Type 0 where
  pub tick_ns : R.tick_ns ≡ order.tick_ns
  pub seed : R.seed ≡ order.seed
  pub pipes : AllZip (IsRedPipeOf order.tick_ns) order.pipes R.pipes
  pub packets : R.packets ≡ map red_packet_of S.packets

-- the leaving of a packet with these bytes and this fate, if it left
abbrev pub red_leaving_of : ℕ → List ℕ → RedFate → Option Leaving
red_leaving_of packet bytes (Left tick) = Some (record { tick = tick; packet = packet; bytes = bytes })
red_leaving_of packet bytes (Dropped pipe tick cause) = None

-- the packets that left, in packet order, each with its bytes
abbrev pub red_leavings : List PacketPlan → List RedFate → List (List ℕ) → List Leaving
red_leavings packets fates bytes = filter_map (λ p. red_leaving_of p.0.0.number p.1 p.0.1) (zip (zip packets fates) bytes)

-- By the one journal of the setup: each packet that leaves stands once in the trace written, with its own bytes, at the tick of its
-- fate, by tick and then by packet number; what becomes of each packet and at each pipe is in the report. Every packet is bound.
pub record IsRedRun (order : RedView) (trace : Capture) (out_text report : List ℕ) : Type 0 where
  pub setup : SetupView
  pub red : RedSetupView
  pub visits : List RedVisit
  pub leaving : List Leaving
  pub setup_is : IsChainSetup (base_order order) trace setup
  pub red_is : IsRedSetupOf order setup red
  pub visits_are : visits ≡ red_journal_of red
  pub leaving_is : IsPermutation (red_leavings setup.packets (fates_by red visits) (map (λ p. p.bytes) trace.packets)) leaving
  pub in_order : AllPairs LeavesBefore leaving
  pub out_is : out_text ≡ pcap_text (trace_of setup leaving)
  pub report_is : report ≡ red_report_text red visits

-- the bytes say a trace, in either capture format, and these are the bytes that its run writes
pub record SaysRed (order : RedView) (text out_text report : List ℕ) : Type 0 where
  pub trace : Capture
  pub says : SaysTrace text trace
  pub run : IsRedRun order trace out_text report
