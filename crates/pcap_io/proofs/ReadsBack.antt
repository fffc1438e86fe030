-- What is written of a trace reads to that trace.
use Rattle.std.proofs.Common.{◌≡◌, ℕ, ◌+◌, ◌*◌, ◌/◌, ◌%◌, ◌^◌, ◌<◌, ◌≤◌, List, [], ◌∷◌, ◌++◌, length, take, drop, refl, sym, ap, subst, ◌∙◌, inl, inr, arith, append_assoc, length-append}
use Rattle.std.specs.List.{flat_map, All, AllByRecursion}
use Rattle.std.proofs.lemmas.List.{take_at, drop_at}
use Rattle.std.proofs.lemmas.List.Concat.{flat_map-cons}
use Rattle.std.proofs.lemmas.List.Elements.{recursion_from_All}
use Rattle.std.proofs.lemmas.Nat.{from_le_bytes-to_le_bytes_4}
use Rattle.mn_base.specs.declared.limits.TheConstants.{RECORD_SECONDS_MAX}
use Rattle.pcap_io.specs.declared.form.ByteOrder.TheVariants.{Little}
use Rattle.pcap_io.specs.declared.form.Resolution.TheVariants.{Nanoseconds}
use Rattle.pcap_io.specs.declared.form.Form.{Form}
use Rattle.pcap_io.specs.declared.packet.Packet.{Packet}
use Rattle.mn_base.specs.Ranges.{IsLinkType}
use Rattle.pcap_io.specs.Capture.{Capture, IsPacket, IsTrace}
use Rattle.pcap_io.specs.Form.{half, word}
use Rattle.pcap_io.specs.Reading.{HasHeader, OpensWithRecord, record_packet, after_record, Splits, Pcap}
use Rattle.pcap_io.specs.Writing.{header_text, record_header_text, record_text, pcap_text}

-- the form that is written
abbrev written : Form
written = record { order = Little; resolution = Nanoseconds }

-- ---- the header

known_fits : (link_type : ℕ) → IsLinkType link_type → link_type < 2 ^ 32
known_fits n (inl one) = omega arith
known_fits n (inr (inl raw)) = omega arith
known_fits n (inr (inr four)) = omega arith

length-header_text : (link_type : ℕ) → length (header_text link_type) ≡ 24
unfolding header_text
length-header_text n = refl

header_text-version : (link_type : ℕ) (body : List ℕ) → half Little 4 (header_text link_type ++ body) ≡ 2
unfolding header_text half
header_text-version n body = refl

header_text-link_type : (link_type : ℕ) (body : List ℕ) → link_type < 2 ^ 32 → word Little 20 (header_text link_type ++ body) ≡ link_type
unfolding header_text word
header_text-link_type n body fits = from_le_bytes-to_le_bytes_4 n fits

header_text-magic : (link_type : ℕ) (body : List ℕ) → take 4 (header_text link_type ++ body) ≡ 0x4d ∷ 0x3c ∷ 0xb2 ∷ 0xa1 ∷ []
unfolding header_text
header_text-magic n body = refl

header_back : (link_type : ℕ) (body : List ℕ) → IsLinkType link_type → HasHeader written link_type (header_text link_type ++ body)
header_back n body known = record {
  magic = header_text-magic n body;
  whole = omega (arith, length-append (header_text n) body, length-header_text n);
  version = header_text-version n body;
  link_type_is = sym (header_text-link_type n body (known_fits n known));
  known = known;
}

-- ---- a record

-- the numbers of a record that was written
record HasNumbers (packet : Packet) (text : List ℕ) : Type 0 where
  seconds_are : word Little 0 text ≡ packet.time_ns / 10 ^ 9
  fraction_is : word Little 4 text ≡ packet.time_ns % 10 ^ 9
  captured_is : word Little 8 text ≡ length packet.bytes
  original_is : word Little 12 text ≡ packet.original

numbers_back : (packet : Packet) (rest : List ℕ) → IsPacket packet → HasNumbers packet (record_header_text packet ++ rest)
unfolding record_header_text word
numbers_back packet rest within = record {
  seconds_are = from_le_bytes-to_le_bytes_4 (packet.time_ns / 10 ^ 9) (omega (arith, within.time));
  fraction_is = from_le_bytes-to_le_bytes_4 (packet.time_ns % 10 ^ 9) (omega arith);
  captured_is = from_le_bytes-to_le_bytes_4 (length packet.bytes) (omega (arith, within.captured));
  original_is = from_le_bytes-to_le_bytes_4 packet.original (omega (arith, within.original));
}

length-record_header_text : (packet : Packet) → length (record_header_text packet) ≡ 16
unfolding record_header_text
length-record_header_text packet = refl

-- a packet whose seconds can be read
record CanBeRead (packet : Packet) : Type 0 where
  within : IsPacket packet
  early : packet.time_ns / 10 ^ 9 ≤ RECORD_SECONDS_MAX

opens_back : (packet : Packet) (rest : List ℕ) → CanBeRead packet
    → OpensWithRecord written (record_header_text packet ++ (packet.bytes ++ rest))
opens_back packet rest can =
    let text = record_header_text packet ++ (packet.bytes ++ rest) in
    let numbers = numbers_back packet (packet.bytes ++ rest) can.within in
    let header_len = length-record_header_text packet in
    let len : length text ≡ 16 + (length packet.bytes + length rest) =
    omega (arith, length-append (record_header_text packet) (packet.bytes ++ rest), length-append packet.bytes rest, header_len) in
    record {
      header = omega (arith, len);
      time = omega (arith, numbers.seconds_are, can.early);
      captured_length = omega (arith, numbers.captured_is, can.within.captured);
      original_length = omega (arith, numbers.original_is, can.within.original);
      whole = omega (arith, numbers.captured_is, len);
    }

-- the packet and the rest of a record that was written
packet_back : (packet : Packet) (rest : List ℕ) → CanBeRead packet
    → packet ≡ record_packet written (record_header_text packet ++ (packet.bytes ++ rest))
packet_back packet rest can =
    let text = record_header_text packet ++ (packet.bytes ++ rest) in
    let numbers = numbers_back packet (packet.bytes ++ rest) can.within in
    let time : word Little 0 text * 10 ^ 9 + word Little 4 text ≡ packet.time_ns = omega (arith, numbers.seconds_are, numbers.fraction_is) in
    let with_time : Packet → Packet = λ p. record p { time_ns = word Little 0 text * 10 ^ 9 + word Little 4 text } in
    let body : drop 16 text ≡ packet.bytes ++ rest =
    drop_at (record_header_text packet) (packet.bytes ++ rest) 16 (length-record_header_text packet) in
    let bytes : take (word Little 8 text) (drop 16 text) ≡ packet.bytes =
    rw (numbers.captured_is, body) (take_at packet.bytes rest (length packet.bytes) refl) in
    ap (λ (t : ℕ). record packet { time_ns = t }) (sym time)
    ∙ ap (λ (n : ℕ). with_time (record packet { original = n })) (sym numbers.original_is)
    ∙ ap (λ (bs : List ℕ). with_time (record { time_ns = packet.time_ns; original = word Little 12 text; bytes = bs })) (sym bytes)

after_back : (packet : Packet) (rest : List ℕ) → CanBeRead packet
    → after_record written (record_header_text packet ++ (packet.bytes ++ rest)) ≡ rest
after_back packet rest can =
    let text = record_header_text packet ++ (packet.bytes ++ rest) in
    let numbers = numbers_back packet (packet.bytes ++ rest) can.within in
    let regrouped : text ≡ record_text packet ++ rest = sym (append_assoc (record_header_text packet) packet.bytes rest) in
    let header_len = length-record_header_text packet in
    let len : length (record_text packet) ≡ 16 + word Little 8 text =
    omega (arith, length-append (record_header_text packet) packet.bytes, header_len, numbers.captured_is) in
    ap (drop (16 + word Little 8 text)) regrouped ∙ drop_at (record_text packet) rest (16 + word Little 8 text) len

splits_back : (packets : List Packet) → AllByRecursion CanBeRead packets → Splits written (flat_map record_text packets) packets []
splits_back [] can = refl
splits_back (packet ∷ packets) can =
    let rest = flat_map record_text packets in
    let regrouped : record_header_text packet ++ (packet.bytes ++ rest) ≡ flat_map record_text (packet ∷ packets) =
    sym (append_assoc (record_header_text packet) packet.bytes rest) ∙ sym (flat_map-cons record_text packet packets) in
    let after : Splits written (after_record written (record_header_text packet ++ (packet.bytes ++ rest))) packets [] =
    subst (λ (text : List ℕ). Splits written text packets []) (sym (after_back packet rest can.0)) (splits_back packets can.1) in
    subst (λ (text : List ℕ). Splits written text (packet ∷ packets) []) regrouped
    (opens_back packet rest can.0, packet_back packet rest can.0, after)

pub reads_back : (trace : Capture) → IsTrace trace → All (λ packet. packet.time_ns / 10 ^ 9 ≤ RECORD_SECONDS_MAX) trace.packets
    → Pcap (pcap_text trace) trace
reads_back trace within early =
    let body = flat_map record_text trace.packets in
    let can : All CanBeRead trace.packets = λ i d lt. record { within = within.packets i d lt; early = early i d lt } in
    let body_is : body ≡ drop 24 (header_text trace.link_type ++ body) =
    sym (drop_at (header_text trace.link_type) body 24 (length-header_text trace.link_type)) in
    let splits = splits_back trace.packets (recursion_from_All CanBeRead trace.packets can) in
    record {
      form = written;
      header = header_back trace.link_type body within.link_type;
      records = subst (λ (text : List ℕ). Splits written text trace.packets []) body_is splits;
      count = within.count;
    }
