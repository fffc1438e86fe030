-- What stays true from block to block: units of interfaces, the first link type, and packets within the limits.
use Rattle.std.proofs.Common.{◌≡◌, ◌≢◌, ℕ, zero, suc, ◌+◌, ◌-◌, ◌^◌, ◌<◌, ◌≤◌, ◌==◌, nat_le, ◌&&◌, true, List, [], ◌∷◌, length, take, drop, length-take, Option, Some, None, refl, subst, inl, inr, All, arith, lit≤, slice_index}
use native.Mathlib.Nat.{pow-suc}
use Rattle.std.specs.Option.{option_map, unwrap_or, IfSome}
use Rattle.std.proofs.lemmas.Bool.{cases_Bool}
use Rattle.std.proofs.lemmas.Nat.{pow_pos}
use Rattle.std.proofs.lemmas.Bool.Decides.{nat_tests}
use Rattle.std.proofs.lemmas.List.{length_push}
use Rattle.std.proofs.lemmas.List.Elements.{All-push}
use Rattle.mn_base.specs.declared.limits.TheConstants.{PACKETS_MAX, PACKET_BYTES_MAX}
use Rattle.mn_base.specs.Ranges.{IsLinkType}
use Rattle.pcap_io.specs.declared.form.ByteOrder.{ByteOrder}
use Rattle.pcap_io.specs.declared.packet.Packet.{Packet}
use Rattle.pcap_io.specs.Capture.{IsPacket}
use Rattle.pcapng_in.specs.declared.blocks.TheConstants.{SECTION, INTERFACE, SIMPLE, ENHANCED}
use Rattle.pcapng_in.specs.declared.rate.TheConstants.{RESOLUTION, RATE_DEFAULT}
use Rattle.pcapng_in.specs.declared.packets.TheConstants.{CAPTURE_NS_END}
use Rattle.pcapng_in.specs.declared.packets.PacketHeader.{PacketHeader}
use Rattle.pcapng_in.specs.declared.interface.Interface.{Interface}
use Rattle.pcapng_in.specs.declared.fault.NgFault.{NgFault}
use Rattle.pcapng_in.specs.declared.fault.NgFault.TheVariants.{LinkType}
use Rattle.pcapng_in.specs.Options.{InterfaceOption, options, rate, rate_of_code, rate_of_value}
use Rattle.pcapng_in.specs.Interfaces.{knows_link_type, interface_link_type, interface_rate, rate_told, interface_fault, interface_of}
use Rattle.pcapng_in.specs.Packets.{HasRate, enhanced_fault, enhanced_header, simple_fault, simple_header, packet_at}
use Rattle.pcapng_in.specs.Blocks.{kind_of, order_of_block, shape_fault}
use Rattle.pcapng_in.specs.State.{NgState, first_state, with_section, with_interface, with_packet, content_fault, with_content}
use Rattle.pcapng_in.specs.Reading.{length_here, or_then, block_fault, after_block, behind_block, ReadsBlocks, ReadsTo}

pub record Keeps (state : NgState) : Type 0 where
  pub rates : All HasRate state.interfaces
  pub link_type : IfSome state.link_type IsLinkType
  pub count : length state.packets ≤ PACKETS_MAX
  pub packets : All IsPacket state.packets
  pub times : All (λ (packet : Packet). packet.time_ns < CAPTURE_NS_END) state.packets
  pub last : state.last_ns < CAPTURE_NS_END

-- ---- units of time

power_of_ten : (exponent : ℕ) → 1 ≤ 10 ^ exponent
power_of_ten zero = lit≤ tt
power_of_ten (suc e) = omega (arith, pow-suc 10 e, power_of_ten e)

power_of_two : (exponent : ℕ) → 1 ≤ 2 ^ exponent
power_of_two e = omega (arith, pow_pos e)

some_same : (per_second other : ℕ) → Some per_second ≡ Some other → per_second ≡ other
some_same per_second other e = cc

rate_of_code-some : (code per_second : ℕ) → rate_of_code code ≡ Some per_second → 1 ≤ per_second
rate_of_code-some code per_second is =
    elim (cases_Bool (nat_le code 18)) [
      | inl ten ↦ subst (λ (n : ℕ). 1 ≤ n) (some_same (10 ^ code) per_second (rw ten at is)) (power_of_ten code)
      | inr not_ten ↦ elim (cases_Bool (nat_le 128 code && nat_le code 191)) [
        | inl two ↦ subst (λ (n : ℕ). 1 ≤ n) (some_same (2 ^ (code - 128)) per_second (rw (not_ten, two) at is)) (power_of_two (code - 128))
        | inr neither ↦ let e : None ≡ Some per_second = rw (not_ten, neither) at is in absurd cc
      ]
    ]

rate_of_value-some : (value : List ℕ) (per_second : ℕ) → rate_of_value value ≡ Some per_second → 1 ≤ per_second
rate_of_value-some value per_second is =
    elim (cases_Bool (length value == 1)) [
      | inl one ↦ rate_of_code-some (slice_index value 0) per_second (rw one at is)
      | inr other ↦ let e : None ≡ Some per_second = rw other at is in absurd cc
    ]

-- the first resolution among the options has units in a second
rate-some : (options : List InterfaceOption) (per_second : ℕ) → rate options ≡ Some per_second → 1 ≤ per_second
rate-some [] per_second is = let e : RATE_DEFAULT ≡ per_second = some_same RATE_DEFAULT per_second is in omega arith
rate-some (option ∷ others) per_second is =
    elim (cases_Bool (option.code == RESOLUTION)) [
      | inl here ↦ rate_of_value-some option.value per_second (rw here at is)
      | inr later ↦ rate-some others per_second (rw later at is)
    ]

rate_told-some : (told : Option (Option ℕ)) → ((per_second : ℕ) → told ≡ Some (Some per_second) → 1 ≤ per_second) → 1 ≤ rate_told told
rate_told-some None some = omega arith
rate_told-some (Some None) some = omega arith
rate_told-some (Some (Some per_second)) some = some per_second refl

mapped-some : (told : Option (List InterfaceOption)) (per_second : ℕ) → option_map rate told ≡ Some (Some per_second) → 1 ≤ per_second
mapped-some None per_second is = absurd cc
mapped-some (Some options) per_second is = rate-some options per_second (let e : Some (rate options) ≡ Some (Some per_second) = is in cc)

interface_of-rate : (order : ByteOrder) (len : ℕ) (text : List ℕ) → HasRate (interface_of order len text)
interface_of-rate order len text =
    rate_told-some (interface_rate order len text) (mapped-some (options order (take (len - 20) (drop 16 text))))

-- ---- link types

known : (n : ℕ) → knows_link_type n ≡ true → IsLinkType n
known n is = grind (arith, nat_tests)

interface_fault-known : (place : ℕ) (first : Option ℕ) (order : ByteOrder) (len : ℕ) (text : List ℕ)
    → interface_fault place first order len text ≡ None
    → knows_link_type (interface_link_type order text) ≡ true
interface_fault-known place first order len text none =
    elim (cases_Bool (knows_link_type (interface_link_type order text))) [
      | inl here ↦ here
      | inr unknown ↦ let e : Some (LinkType place) ≡ None = rw unknown at none in absurd cc
    ]

-- ---- one block

empty_rates : All HasRate []
empty_rates k d within = absurd (omega arith)

pub first_keeps : Keeps first_state
first_keeps = record {
  rates = empty_rates;
  link_type = tt;
  count = omega arith;
  packets = λ k d within. absurd (omega arith);
  times = λ k d within. absurd (omega arith);
  last = omega arith;
}

section_keeps : (order : ByteOrder) (state : NgState) → Keeps state → Keeps (with_section order state)
section_keeps order state kept = record {
  rates = empty_rates;
  link_type = kept.link_type;
  count = kept.count;
  packets = kept.packets;
  times = kept.times;
  last = kept.last;
}

first_type : (first : Option ℕ) (n : ℕ) → IfSome first IsLinkType → IsLinkType n → IsLinkType (unwrap_or first n)
first_type None n first_is is = is
first_type (Some first) n first_is is = first_is

interface_keeps : (interface : Interface) (state : NgState) → HasRate interface → IsLinkType interface.link_type → Keeps state
    → Keeps (with_interface interface state)
interface_keeps interface state has is kept = record {
  rates = All-push HasRate state.interfaces interface kept.rates has;
  link_type = first_type state.link_type interface.link_type kept.link_type is;
  count = kept.count;
  packets = kept.packets;
  times = kept.times;
  last = kept.last;
}

-- a packet that is read
record IsRead (state : NgState) (packet : Packet) : Type 0 where
  few : length state.packets < PACKETS_MAX
  within : IsPacket packet
  early : packet.time_ns < CAPTURE_NS_END

packet_keeps : (packet : Packet) (state : NgState) → IsRead state packet → Keeps state → Keeps (with_packet packet state)
packet_keeps packet state is kept = record {
  rates = kept.rates;
  link_type = kept.link_type;
  count = omega (arith, length_push state.packets packet, is.few);
  packets = All-push IsPacket state.packets packet kept.packets is.within;
  times = All-push (λ (p : Packet). p.time_ns < CAPTURE_NS_END) state.packets packet kept.times is.early;
  last = is.early;
}

-- the packet of a header with lengths within the limits and an early time
header_is_packet : (offset : ℕ) (header : PacketHeader) (text : List ℕ) → header.captured ≤ PACKET_BYTES_MAX
    → header.original ≤ PACKET_BYTES_MAX
    → header.time_ns < CAPTURE_NS_END → IsPacket (packet_at offset header text)
header_is_packet offset header text captured original early = record {
  time = omega (arith, early);
  original = original;
  captured = omega (arith, captured, length-take header.captured (drop offset text));
}

-- what a good enhanced packet has
record HasNone (state : NgState) (header : PacketHeader) : Type 0 where
  few : length state.packets ≢ PACKETS_MAX
  captured : header.captured ≤ PACKET_BYTES_MAX
  original : header.original ≤ PACKET_BYTES_MAX

record IsEarly (header : PacketHeader) : Type 0 where
  early : header.time_ns < CAPTURE_NS_END

enhanced_fault-none : (state : NgState) (order : ByteOrder) (len : ℕ) (text : List ℕ)
    → enhanced_fault state.place (length state.packets) state.interfaces order len text ≡ None
    → HasNone state (enhanced_header state.interfaces order text) × IsEarly (enhanced_header state.interfaces order text)
enhanced_fault-none state order len text none = (
  record { few = grind (arith, nat_tests); captured = grind (arith, nat_tests); original = grind (arith, nat_tests) },
  record { early = grind (arith, nat_tests) },
)

simple_fault-none : (state : NgState) (order : ByteOrder) (len : ℕ) (text : List ℕ)
    → simple_fault state.place (length state.packets) state.interfaces order len text ≡ None
    → HasNone state (simple_header state.interfaces state.last_ns order text)
simple_fault-none state order len text none =
    record { few = grind (arith, nat_tests); captured = grind (arith, nat_tests); original = grind (arith, nat_tests) }

header_keeps : (offset : ℕ) (header : PacketHeader) (state : NgState) (text : List ℕ) → HasNone state header
    → header.time_ns < CAPTURE_NS_END
    → Keeps state → Keeps (with_packet (packet_at offset header text) state)
header_keeps offset header state text has early kept =
    packet_keeps (packet_at offset header text) state
    (record {
      few = omega (arith, has.few, kept.count);
      within = header_is_packet offset header text has.captured has.original early;
      early = early;
    }) kept

content_keeps : (order : ByteOrder) (kind len : ℕ) (text : List ℕ) (state : NgState) → content_fault order kind len text state ≡ None
    → Keeps state → Keeps (with_content order kind len text state)
content_keeps order kind len text state none kept =
    elim (cases_Bool (kind == SECTION)) [
      | inl section ↦ rw section (section_keeps order state kept)
      | inr a ↦ elim (cases_Bool (kind == INTERFACE)) [
        | inl interface ↦
            let good = interface_fault-known state.place state.link_type order len text (rw (a, interface) at none) in
            rw (a, interface)
            (interface_keeps (interface_of order len text) state (interface_of-rate order len text) (known (interface_link_type order text) good) kept)
        | inr b ↦ elim (cases_Bool (kind == ENHANCED)) [
          | inl enhanced ↦
              let good = enhanced_fault-none state order len text (rw (a, b, enhanced) at none) in
              rw (a, b, enhanced) (header_keeps 28 (enhanced_header state.interfaces order text) state text good.0 good.1.early kept)
          | inr c ↦ elim (cases_Bool (kind == SIMPLE)) [
            | inl simple ↦
                let good = simple_fault-none state order len text (rw (a, b, c, simple) at none) in
                rw (a, b, c, simple) (header_keeps 12 (simple_header state.interfaces state.last_ns order text) state text good kept.last kept)
            | inr d ↦ rw (a, b, c, d) kept
          ]
        ]
      ]
    ]

moved_keeps : (state : NgState) (place : ℕ) → Keeps state → Keeps (record state { place = place })
moved_keeps state place kept = record {
  rates = kept.rates;
  link_type = kept.link_type;
  count = kept.count;
  packets = kept.packets;
  times = kept.times;
  last = kept.last;
}

or_then-none : (told other : Option NgFault) → or_then told other ≡ None → other ≡ None
or_then-none None other none = none
or_then-none (Some fault) other none = absurd cc

pub block_keeps : (state : NgState) (text : List ℕ) → block_fault state text ≡ None → Keeps state → Keeps (after_block state text)
block_keeps state text none kept =
    let order = order_of_block state.order text in
    let kind = kind_of state.order text in
    let len = length_here state text in
    let content = or_then-none (shape_fault state.place state.order text) (content_fault order kind len text state) none in
    moved_keeps (with_content order kind len text state) (state.place + len) (content_keeps order kind len text state content kept)

reads_keep : (n : ℕ) (state : NgState) (text : List ℕ) (end : NgState) (rest : List ℕ) → ReadsBlocks n state text end rest → Keeps state
    → Keeps end
reads_keep zero state text end rest reads kept = subst Keeps reads.0 kept
reads_keep (suc n) state text end rest reads kept =
    reads_keep n (after_block state text) (behind_block state text) end rest reads.1 (block_keeps state text reads.0 kept)

pub what_is_read_keeps : (text : List ℕ) (end : NgState) (rest : List ℕ) → ReadsTo text end rest → Keeps end
what_is_read_keeps text end rest reads = reads_keep reads.blocks first_state text end rest reads.reads first_keeps
