-- The trace of the packets of a setup that leave, by the list of all visits.
use Rattle.std.specs.Prelude.{◌≡◌, ◌<◌, ◌^◌, ◌-◌, ℕ, List, filter_map, AllPairs, Option, Some, None}
use Rattle.std.specs.List.Sorted.{IsPermutation}
use Rattle.mn_base.specs.declared.limits.TheConstants.{RECORD_NS_END}
use Rattle.mn_base.specs.Times.{output_time}
use Rattle.pcap_io.specs.declared.packet.Packet.{Packet}
use Rattle.pcap_io.specs.Capture.{Capture}
use Rattle.journal.specs.declared.visit.Visit.{Visit}
use Rattle.journal.specs.declared.fate.Fate.{Fate}
use Rattle.journal.specs.declared.fate.Fate.TheVariants.{Left, Dropped}
use Rattle.journal.specs.SetupView.{SetupView}
use Rattle.settle.specs.declared.outcome.Leaving.{Leaving}
use Rattle.settle.specs.IsOutcome.{leavings, LeavesBefore}
use Rattle.report.specs.Traces.{trace_of}

-- the trace of the packets of the setup S that leave, where J is the list of all visits and these are the bytes of all packets
pub record IsLeavingTrace (S : SetupView) (J : List Visit) (bytes : List (List ℕ)) (trace : Capture) : Type 0 where
  pub left : List Leaving
  -- each packet that leaves, once, with its bytes, at the tick of its fate
  pub all : IsPermutation (leavings S J bytes) left
  -- by tick, then by packet number
  pub in_order : AllPairs LeavesBefore left
  pub trace_is : trace ≡ trace_of S left

-- the tick at which a packet of this fate leaves, if it does
abbrev pub left_tick : Fate → Option ℕ
left_tick (Left tick) = Some tick
left_tick (Dropped pipe tick cause) = None

-- the ticks of the packets that leave, in packet order
abbrev pub left_ticks : List Fate → List ℕ
left_ticks fates = filter_map left_tick fates

-- should a packet of this fate leave, a record can hold the time
abbrev pub FitsRecord : SetupView → Fate → Type 0
FitsRecord S (Left tick) = output_time S.base_ns S.tick_ns tick < RECORD_NS_END
FitsRecord S (Dropped pipe tick cause) = Unit {0}

-- the time at which a packet of this fate leaves, or a time that no packet has
abbrev pub leaving_ns : SetupView → Fate → ℕ
leaving_ns S (Left tick) = output_time S.base_ns S.tick_ns tick
leaving_ns S (Dropped pipe tick cause) = 2 ^ 64 - 1

-- a packet at that time
abbrev pub timed : SetupView → Fate → Packet → Packet
timed S fate packet = record packet { time_ns = leaving_ns S fate }
