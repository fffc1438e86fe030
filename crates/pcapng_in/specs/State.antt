-- What a file has said up to a place, and what one more block says.
use Rattle.std.specs.Prelude.{ℕ, ◌==◌, if◌then◌else◌, List, [], ◌∷◌, ◌++◌, length, Option, Some, None}
use Rattle.std.specs.Option.{unwrap_or}
use Rattle.pcap_io.specs.declared.form.ByteOrder.{ByteOrder}
use Rattle.pcap_io.specs.declared.form.ByteOrder.TheVariants.{Little}
use Rattle.pcap_io.specs.declared.packet.Packet.{Packet}
use Rattle.pcap_io.specs.Form.{half}
use Rattle.pcapng_in.specs.declared.blocks.TheConstants.{SECTION, INTERFACE, SIMPLE, ENHANCED}
use Rattle.pcapng_in.specs.declared.interface.Interface.{Interface}
use Rattle.pcapng_in.specs.declared.fault.NgFault.{NgFault}
use Rattle.pcapng_in.specs.declared.fault.NgFault.TheVariants.{Version}
use Rattle.pcapng_in.specs.Interfaces.{interface_fault, interface_of}
use Rattle.pcapng_in.specs.Packets.{enhanced_fault, enhanced_header, simple_fault, simple_header, packet_at}

pub record NgState : Type 0 where
  -- where the next block stands
  pub place : ℕ
  -- byte order and interfaces of the section so far
  pub order : ByteOrder
  pub interfaces : List Interface
  -- that of the file's first interface
  pub link_type : Option ℕ
  pub packets : List Packet
  -- the time of the packet before, or 0
  pub last_ns : ℕ

-- A file begins with a section header, which reads the same in either byte order.
abbrev pub first_state : NgState
first_state = record { place = 0; order = Little; interfaces = []; link_type = None; packets = []; last_ns = 0 }

-- a section of another major version than 1
abbrev pub section_fault : ℕ → ByteOrder → List ℕ → Option NgFault
section_fault place order text = if half order 12 text == 1 then None else Some (Version place)

-- a section has no interfaces at first
abbrev pub with_section : ByteOrder → NgState → NgState
with_section order state = record state { order = order; interfaces = [] }

abbrev pub with_interface : Interface → NgState → NgState
with_interface interface state = record state {
  interfaces = state.interfaces ++ interface ∷ [];
  link_type = Some (unwrap_or state.link_type interface.link_type);
}

abbrev pub with_packet : Packet → NgState → NgState
with_packet packet state = record state { packets = state.packets ++ packet ∷ []; last_ns = packet.time_ns }

-- what is wrong with the content of a block of this byte order, type and length
abbrev pub content_fault : ByteOrder → ℕ → ℕ → List ℕ → NgState → Option NgFault
content_fault order kind len text state =
    if kind == SECTION then section_fault state.place order text
    else (if kind == INTERFACE then interface_fault state.place state.link_type order len text
    else (if kind == ENHANCED then enhanced_fault state.place (length state.packets) state.interfaces order len text
    else (if kind == SIMPLE then simple_fault state.place (length state.packets) state.interfaces order len text
    else None)))

-- what its content says; a block of another type says nothing
abbrev pub with_content : ByteOrder → ℕ → ℕ → List ℕ → NgState → NgState
with_content order kind len text state =
    if kind == SECTION then with_section order state
    else (if kind == INTERFACE then with_interface (interface_of order len text) state
    else (if kind == ENHANCED then with_packet (packet_at 28 (enhanced_header state.interfaces order text) text) state
    else (if kind == SIMPLE then with_packet (packet_at 12 (simple_header state.interfaces state.last_ns order text) text) state
    else state)))
