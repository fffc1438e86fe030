-- The trace of the packets that left.
use Rattle.std.specs.Prelude.{List, map}
use Rattle.mn_base.specs.Times.{output_time}
use Rattle.pcap_io.specs.declared.packet.Packet.{Packet}
use Rattle.pcap_io.specs.Capture.{Capture}
use Rattle.journal.specs.SetupView.{SetupView, len_of}
use Rattle.settle.specs.declared.outcome.Leaving.{Leaving}

-- a packet as it left: with its own bytes and its original length, at the time of its tick
abbrev pub packet_left : SetupView → Leaving → Packet
packet_left S left = record {
  time_ns = output_time S.base_ns S.tick_ns left.tick;
  original = len_of S left.packet;
  bytes = left.bytes;
}

-- the capture of these packets, in this order
abbrev pub trace_of : SetupView → List Leaving → Capture
trace_of S leaving = record { link_type = S.link_type; packets = map (packet_left S) leaving }
