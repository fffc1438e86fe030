-- What is wrong with a file first (`text` is its bytes).
use Rattle.std.specs.Prelude.{◌≡◌, ◌≢◌, ℕ, ◌+◌, ◌<◌, ◌≤◌, ◌==◌, nat_lt, ◌||◌, if◌then◌else◌, List, [], length, drop, Option, Some, None}
use Rattle.mn_base.specs.declared.limits.TheConstants.{PACKETS_MAX, PACKET_BYTES_MAX, RECORD_SECONDS_MAX}
use Rattle.pcap_io.specs.declared.fault.PcapFault.{PcapFault}
use Rattle.pcap_io.specs.declared.fault.PcapFault.TheVariants.{NotPcap, ShortHeader, Version, LinkType, Truncated, TimeRange, TooLong, TooMany}
use Rattle.pcap_io.specs.declared.form.Form.{Form}
use Rattle.pcap_io.specs.declared.packet.Packet.{Packet}
use Rattle.mn_base.specs.Ranges.{IsLinkType}
use Rattle.pcap_io.specs.Form.{half, word}
use Rattle.pcap_io.specs.Reading.{HasMagic, HasHeader, seconds, captured, original, Splits}

-- the text ends within the header
pub record HasShortHeader (form : Form) (text : List ℕ) : Type 0 where
  pub magic : HasMagic form text
  pub short : length text < 24

-- a whole header of another major version
pub record HasOtherVersion (form : Form) (major : ℕ) (text : List ℕ) : Type 0 where
  pub magic : HasMagic form text
  pub whole : 24 ≤ length text
  pub version : major ≡ half form.order 4 text
  pub other : major ≢ 2

-- a whole header of major version 2 and another link type
pub record HasOtherLinkType (form : Form) (link_type : ℕ) (text : List ℕ) : Type 0 where
  pub magic : HasMagic form text
  pub whole : 24 ≤ length text
  pub version : half form.order 4 text ≡ 2
  pub link_type_is : link_type ≡ word form.order 20 text
  pub other : IsLinkType link_type → ⊥

-- the first thing that is wrong with record n, of which a byte is left, or None
abbrev pub record_fault : Form → ℕ → List ℕ → Option PcapFault
record_fault form n text =
    if n == PACKETS_MAX then Some TooMany
    else (if nat_lt (length text) 16 then Some (Truncated n)
    else (if nat_lt RECORD_SECONDS_MAX (seconds form text) then Some (TimeRange n)
    else (if nat_lt PACKET_BYTES_MAX (captured form text) || nat_lt PACKET_BYTES_MAX (original form text) then Some (TooLong n)
    else (if nat_lt (length text) (16 + captured form text) then Some (Truncated n)
    else None))))

-- whole records open the body, and the next one has this fault
pub record HasRecordFault (form : Form) (fault : PcapFault) (body : List ℕ) : Type 0 where
  pub packets : List Packet
  pub rest : List ℕ
  pub before : Splits form body packets rest
  pub count : length packets ≤ PACKETS_MAX
  pub left : rest ≢ []
  pub fault_is : record_fault form (length packets) rest ≡ Some fault

-- a good header, and then a record with this fault
pub record HasFaultBehindHeader (fault : PcapFault) (text : List ℕ) : Type 0 where
  pub form : Form
  pub link_type : ℕ
  pub header : HasHeader form link_type text
  pub body : HasRecordFault form fault (drop 24 text)

-- this fault is the first of the text
abbrev pub PcapFirst : List ℕ → PcapFault → Type 0
PcapFirst text NotPcap = (form : Form) → HasMagic form text → ⊥
PcapFirst text ShortHeader = (form : Form) × HasShortHeader form text
PcapFirst text (Version major) = (form : Form) × HasOtherVersion form major text
PcapFirst text (LinkType link_type) = (form : Form) × HasOtherLinkType form link_type text
PcapFirst text (Truncated n) = HasFaultBehindHeader (Truncated n) text
PcapFirst text (TimeRange n) = HasFaultBehindHeader (TimeRange n) text
PcapFirst text (TooLong n) = HasFaultBehindHeader (TooLong n) text
PcapFirst text TooMany = HasFaultBehindHeader TooMany text
