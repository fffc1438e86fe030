-- What a trace is: a link type and packets in order, within the limits.
use Rattle.std.specs.Prelude.{ℕ, ◌<◌, ◌≤◌, List, length, map}
use Rattle.std.specs.List.{All}
use Rattle.mn_base.specs.declared.limits.TheConstants.{PACKETS_MAX, PACKET_BYTES_MAX, RECORD_NS_END, OUTPUT_NS_END}
use Rattle.mn_base.specs.Ranges.{IsLinkType}
use Rattle.mn_base.specs.Times.{base_of}
use Rattle.pcap_io.specs.declared.packet.Packet.{Packet}

-- what contracts see of a `Trace`
pub record Capture : Type 0 where
  pub link_type : ℕ
  pub packets : List Packet

-- the time is below 2^32 seconds, which a written second can hold, and neither length is above the limit
pub record IsPacket (packet : Packet) : Type 0 where
  pub time : packet.time_ns < RECORD_NS_END
  pub original : packet.original ≤ PACKET_BYTES_MAX
  pub captured : length packet.bytes ≤ PACKET_BYTES_MAX

-- a link type that is known, and at most so many packets, each within the limits
pub record IsTrace (trace : Capture) : Type 0 where
  pub link_type : IsLinkType trace.link_type
  pub count : length trace.packets ≤ PACKETS_MAX
  pub packets : All IsPacket trace.packets

-- The time of a record that is read: at most `RECORD_SECONDS_MAX` seconds and a fraction of less than 2^32 us, which is below
-- the end of all output times.
abbrev pub IsRecordTime : ℕ → Type 0
IsRecordTime time_ns = time_ns < OUTPUT_NS_END

-- the time base of a run on a trace, in ns
abbrev pub trace_base : Capture → ℕ
trace_base trace = base_of (map (λ packet. packet.time_ns) trace.packets)
