-- The two blocks that hold packets.
-- Enhanced: type and length (8 bytes), interface (4), time high (4) and low (4), captured length (4), original length (4), the bytes,
-- padded to a multiple of 4, options, and the length again (4).
-- Simple: type and length (8), original length (4), the bytes, padded, and the length again (4). It belongs to interface 0.
use Rattle.std.specs.Prelude.{◌≡◌, ℕ, ◌+◌, ◌-◌, ◌*◌, ◌/◌, ◌^◌, ◌≤◌, ◌==◌, nat_le, nat_lt, ◌||◌, Bool, min, if◌then◌else◌, List, length, take, drop, slice_index_or, Option, Some, None, Result, Ok, Err}
use Rattle.mn_base.specs.declared.limits.TheConstants.{PACKETS_MAX, PACKET_BYTES_MAX}
use Rattle.pcap_io.specs.declared.form.ByteOrder.{ByteOrder}
use Rattle.pcap_io.specs.declared.packet.Packet.{Packet}
use Rattle.pcap_io.specs.Form.{word}
use Rattle.pcapng_in.specs.declared.packets.TheConstants.{CAPTURE_NS_END}
use Rattle.pcapng_in.specs.declared.packets.PacketHeader.{PacketHeader}
use Rattle.pcapng_in.specs.declared.interface.Interface.{Interface}
use Rattle.pcapng_in.specs.declared.fault.NgFault.{NgFault}
use Rattle.pcapng_in.specs.declared.fault.NgFault.TheVariants as fault
use Rattle.pcapng_in.specs.declared.fault.NgFault.TheVariants.{TooMany, TimeRange, TooLong, Data}
use Rattle.pcapng_in.specs.Options.{padded}

-- a second has units
abbrev pub HasRate : Interface → Type 0
HasRate interface = 1 ≤ interface.per_second

-- a time of two halves, in units of which so many are a second, in ns, rounded down once
abbrev pub time_in_ns : ℕ → ℕ → ℕ → ℕ
time_in_ns high low per_second = (high * 2 ^ 32 + low) * 10 ^ 9 / per_second

abbrev pub no_interface : Interface
no_interface = record { link_type = 0; snaplen = 0; per_second = 1 }

-- an interface of a section
abbrev pub interface_at : List Interface → ℕ → Interface
interface_at interfaces number = slice_index_or interfaces number no_interface

abbrev pub is_too_long : ℕ → ℕ → Bool
is_too_long captured original = nat_lt PACKET_BYTES_MAX captured || nat_lt PACKET_BYTES_MAX original

abbrev pub enhanced_time : List Interface → ByteOrder → List ℕ → ℕ
enhanced_time interfaces order text =
    time_in_ns (word order 12 text) (word order 16 text) (interface_at interfaces (word order 8 text)).per_second

-- what is wrong with the enhanced packet of this block, after so many packets and these interfaces of its section
abbrev pub enhanced_fault : ℕ → ℕ → List Interface → ByteOrder → ℕ → List ℕ → Option NgFault
enhanced_fault place count interfaces order len text =
    if count == PACKETS_MAX then Some TooMany
    else (if nat_le (length interfaces) (word order 8 text) then Some (fault.Interface place)
    else (if nat_le CAPTURE_NS_END (enhanced_time interfaces order text) then Some (TimeRange place)
    else (if is_too_long (word order 20 text) (word order 24 text) then Some (TooLong place)
    else (if nat_lt (len - 32) (padded (word order 20 text)) then Some (Data place)
    else None))))

abbrev pub enhanced_header : List Interface → ByteOrder → List ℕ → PacketHeader
enhanced_header interfaces order text = record {
  time_ns = enhanced_time interfaces order text;
  captured = word order 20 text;
  original = word order 24 text;
}

-- the captured length of a simple packet: snaplen 0 is no limit
abbrev pub simple_captured : ℕ → ℕ → ℕ
simple_captured original snaplen = if snaplen == 0 then original else min original snaplen

abbrev pub captured_of_simple : List Interface → ByteOrder → List ℕ → ℕ
captured_of_simple interfaces order text = simple_captured (word order 8 text) (interface_at interfaces 0).snaplen

-- what is wrong with the simple packet of this block
abbrev pub simple_fault : ℕ → ℕ → List Interface → ByteOrder → ℕ → List ℕ → Option NgFault
simple_fault place count interfaces order len text =
    if count == PACKETS_MAX then Some TooMany
    else (if length interfaces == 0 then Some (fault.Interface place)
    else (if is_too_long (captured_of_simple interfaces order text) (word order 8 text) then Some (TooLong place)
    else (if nat_lt (len - 16) (padded (captured_of_simple interfaces order text)) then Some (Data place)
    else None)))

-- its time is that of the packet before it
abbrev pub simple_header : List Interface → ℕ → ByteOrder → List ℕ → PacketHeader
simple_header interfaces last_ns order text = record {
  time_ns = last_ns;
  captured = captured_of_simple interfaces order text;
  original = word order 8 text;
}

-- the packet whose bytes stand at an offset of its block
abbrev pub packet_at : ℕ → PacketHeader → List ℕ → Packet
packet_at offset header text = record {
  time_ns = header.time_ns;
  original = header.original;
  bytes = take header.captured (drop offset text);
}

-- a good header, whose captured bytes stand in the block
pub record IsHeader (fault : Option NgFault) (wanted : PacketHeader) (least len : ℕ) (header : PacketHeader) : Type 0 where
  pub none : fault ≡ None
  pub header_is : header ≡ wanted
  pub inside : header.captured + least ≤ len

abbrev pub ReadsEnhanced : ℕ → ℕ → List Interface → ByteOrder → ℕ → List ℕ → Result PacketHeader NgFault → Type 0
ReadsEnhanced place count interfaces order len text (Ok header) =
    IsHeader (enhanced_fault place count interfaces order len text) (enhanced_header interfaces order text) 32 len header
ReadsEnhanced place count interfaces order len text (Err fault) = enhanced_fault place count interfaces order len text ≡ Some fault

abbrev pub ReadsSimple : ℕ → ℕ → List Interface → ℕ → ByteOrder → ℕ → List ℕ → Result PacketHeader NgFault → Type 0
ReadsSimple place count interfaces last_ns order len text (Ok header) =
    IsHeader (simple_fault place count interfaces order len text) (simple_header interfaces last_ns order text) 16 len header
ReadsSimple place count interfaces last_ns order len text (Err fault) = simple_fault place count interfaces order len text ≡ Some fault
