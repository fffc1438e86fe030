-- The one written form of a trace.
use Rattle.std.specs.Prelude.{ℕ, ◌/◌, ◌%◌, ◌^◌, List, ◌++◌, length}
use Rattle.std.specs.List.{flat_map}
use Rattle.std.specs.Int.{w16, w32, to_le_bytes}
use Rattle.mn_base.specs.declared.limits.TheConstants.{PACKET_BYTES_MAX}
use Rattle.pcap_io.specs.declared.form.ByteOrder.TheVariants.{Little}
use Rattle.pcap_io.specs.declared.form.Resolution.TheVariants.{Nanoseconds}
use Rattle.pcap_io.specs.declared.packet.Packet.{Packet}
use Rattle.pcap_io.specs.Capture.{Capture}
use Rattle.pcap_io.specs.Form.{magic}

-- little-endian and in nanoseconds, version 2.4, zone and sigfigs 0, snaplen the greatest length
unfoldable pub header_text : ℕ → List ℕ
header_text link_type =
    magic Little Nanoseconds ++ to_le_bytes w16 2 ++ to_le_bytes w16 4 ++ to_le_bytes w32 0 ++ to_le_bytes w32 0
    ++ to_le_bytes w32 PACKET_BYTES_MAX ++ to_le_bytes w32 link_type

-- seconds, nanoseconds within the second, captured and original length
unfoldable pub record_header_text : Packet → List ℕ
record_header_text packet =
    to_le_bytes w32 (packet.time_ns / 10 ^ 9) ++ to_le_bytes w32 (packet.time_ns % 10 ^ 9)
    ++ to_le_bytes w32 (length packet.bytes) ++ to_le_bytes w32 packet.original

abbrev pub record_text : Packet → List ℕ
record_text packet = record_header_text packet ++ packet.bytes

abbrev pub pcap_text : Capture → List ℕ
pcap_text trace = header_text trace.link_type ++ flat_map record_text trace.packets
