-- What a file says (`text` is its bytes): a header in one of the four forms, and then whole records and nothing else.
use Rattle.std.specs.Prelude.{◌≡◌, ℕ, ◌+◌, ◌*◌, ◌^◌, ◌≤◌, List, [], ◌∷◌, length, take, drop}
use Rattle.mn_base.specs.declared.limits.TheConstants.{PACKETS_MAX, PACKET_BYTES_MAX, RECORD_SECONDS_MAX}
use Rattle.pcap_io.specs.declared.form.Form.{Form}
use Rattle.pcap_io.specs.declared.packet.Packet.{Packet}
use Rattle.mn_base.specs.Ranges.{IsLinkType}
use Rattle.pcap_io.specs.Capture.{Capture}
use Rattle.pcap_io.specs.Form.{magic, half, word, fraction_ns}

-- the first four bytes name the form
abbrev pub HasMagic : Form → List ℕ → Type 0
HasMagic form text = take 4 text ≡ magic form.order form.resolution

-- A header of 24 bytes: magic (4), version major (2) and minor (2), zone (4), sigfigs (4), snaplen (4),
-- link type (4). Minor version, zone, sigfigs and snaplen aren't looked at.
pub record HasHeader (form : Form) (link_type : ℕ) (text : List ℕ) : Type 0 where
  pub magic : HasMagic form text
  pub whole : 24 ≤ length text
  pub version : half form.order 4 text ≡ 2
  pub link_type_is : link_type ≡ word form.order 20 text
  pub known : IsLinkType link_type

-- A record has a header of 16 bytes: seconds, fraction, captured and original length, each 4 bytes. The
-- captured bytes follow.
abbrev pub seconds : Form → List ℕ → ℕ
seconds form text = word form.order 0 text

abbrev pub fraction : Form → List ℕ → ℕ
fraction form text = word form.order 4 text

abbrev pub captured : Form → List ℕ → ℕ
captured form text = word form.order 8 text

abbrev pub original : Form → List ℕ → ℕ
original form text = word form.order 12 text

-- a whole record opens the text, with each number in its range
pub record OpensWithRecord (form : Form) (text : List ℕ) : Type 0 where
  pub header : 16 ≤ length text
  pub time : seconds form text ≤ RECORD_SECONDS_MAX
  pub captured_length : captured form text ≤ PACKET_BYTES_MAX
  pub original_length : original form text ≤ PACKET_BYTES_MAX
  pub whole : 16 + captured form text ≤ length text

-- the time of the record that opens the text; a fraction past one second is added as it stands
abbrev pub time_ns : Form → List ℕ → ℕ
time_ns form text = seconds form text * 10 ^ 9 + fraction_ns form.resolution (fraction form text)

-- the packet of that record
abbrev pub record_packet : Form → List ℕ → Packet
record_packet form text = record {
  time_ns = time_ns form text;
  original = original form text;
  bytes = take (captured form text) (drop 16 text);
}

-- what follows that record
abbrev pub after_record : Form → List ℕ → List ℕ
after_record form text = drop (16 + captured form text) text

-- the text is whole records of these packets, and then the rest
abbrev pub Splits : Form → List ℕ → List Packet → List ℕ → Type 0
Splits form text [] rest = text ≡ rest
Splits form text (packet ∷ packets) rest =
    OpensWithRecord form text × (packet ≡ record_packet form text) × Splits form (after_record form text) packets rest

-- the text says this trace: a header, and at most so many whole records and nothing else
pub record Pcap (text : List ℕ) (trace : Capture) : Type 0 where
  pub form : Form
  pub header : HasHeader form trace.link_type text
  pub records : Splits form (drop 24 text) trace.packets []
  pub count : length trace.packets ≤ PACKETS_MAX
