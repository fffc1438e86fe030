-- The setup of a chain: one route of all its pipes, one core, and each packet of the trace bound to that route.
use Rattle.std.specs.Prelude.{◌≡◌, ℕ, List, [], ◌∷◌, length, map}
use Rattle.std.specs.List.{AllZip, range_with_len, enumerate_from}
use Rattle.std.specs.Prelude.{replicate}
use Rattle.mn_base.specs.declared.params.PipeParams.{PipeParams}
use Rattle.mn_base.specs.Params.{IsParamsOf}
use Rattle.mn_base.specs.Units.{keep}
use Rattle.mn_base.specs.Times.{entry_tick_of}
use Rattle.pcap_io.specs.declared.packet.Packet.{Packet}
use Rattle.pcap_io.specs.Capture.{Capture, trace_base}
use Rattle.journal.specs.declared.setup.PacketPlan.{PacketPlan}
use Rattle.journal.specs.SetupView.{SetupView}
use Rattle.mn_words.specs.declared.order.PipeSpec.{PipeSpec}
use Rattle.mn_words.specs.Order.{ChainView}

-- the parameters are those of the word, with latency in ticks and loss as a keep
abbrev pub IsPipeOf : ℕ → PipeSpec → PipeParams → Type 0
IsPipeOf tick_ns pipe params = IsParamsOf tick_ns pipe.bps pipe.latency_us pipe.queue (keep pipe.ppm) params

-- a packet of the trace, with its number, as it enters the one route at the one core
abbrev pub plan_of : ℕ → ℕ → ℕ × Packet → PacketPlan
plan_of base tick_ns numbered = record {
  number = numbered.0;
  entry_tick = entry_tick_of base tick_ns numbered.1.time_ns;
  len = numbered.1.original;
  route = 0;
  core = 0;
}

abbrev pub plans_of : ℕ → ℕ → List Packet → List PacketPlan
plans_of base tick_ns packets = map (plan_of base tick_ns) (enumerate_from 0 packets)

-- S is the setup of this order and this trace: no pipe changes
pub record IsChainSetup (order : ChainView) (trace : Capture) (S : SetupView) : Type 0 where
  pub tick_ns : S.tick_ns ≡ order.tick_ns
  pub seed : S.seed ≡ order.seed
  pub base_ns : S.base_ns ≡ trace_base trace
  pub link_type : S.link_type ≡ trace.link_type
  pub cores : S.cores ≡ 1
  pub pipes : AllZip (IsPipeOf order.tick_ns) order.pipes S.pipes
  pub owners : S.owners ≡ replicate (length order.pipes) 0
  pub routes : S.routes ≡ range_with_len 0 (length order.pipes) ∷ []
  pub packets : S.packets ≡ plans_of (trace_base trace) order.tick_ns trace.packets
  pub changes : S.changes ≡ []
  pub loss : S.loss ≡ order.loss
