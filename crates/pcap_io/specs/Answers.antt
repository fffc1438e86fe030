-- What the reader's functions answer, by cases.
use Rattle.std.specs.Prelude.{◌≡◌, ℕ, ◌<◌, List, Some, Result, Ok, Err}
use Rattle.mn_base.specs.declared.limits.TheConstants.{PACKETS_MAX}
use Rattle.pcap_io.specs.declared.fault.PcapFault.{PcapFault}
use Rattle.pcap_io.specs.declared.form.Form.{Form}
use Rattle.pcap_io.specs.declared.reading.Header.{Header}
use Rattle.pcap_io.specs.declared.reading.RecordHeader.{RecordHeader}
use Rattle.pcap_io.specs.Capture.{IsRecordTime}
use Rattle.pcap_io.specs.Reading.{HasHeader, OpensWithRecord, time_ns, captured, original}
use Rattle.pcap_io.specs.Faults.{PcapFirst, record_fault}

-- a good header, or the text's first fault
abbrev pub ReadsHeader : List ℕ → Result Header PcapFault → Type 0
ReadsHeader text (Ok header) = HasHeader header.form header.link_type text
ReadsHeader text (Err fault) = PcapFirst text fault

-- the numbers of the record that opens the text
abbrev pub record_header_of : Form → List ℕ → RecordHeader
record_header_of form text = record { time_ns = time_ns form text; captured = captured form text; original = original form text }

-- a whole record opens the text and is record n, or it has this fault
abbrev pub ReadsRecord : Form → ℕ → List ℕ → Result RecordHeader PcapFault → Type 0
ReadsRecord form n text (Ok header) =
    OpensWithRecord form text × (header ≡ record_header_of form text) × IsRecordTime header.time_ns × (n < PACKETS_MAX)
ReadsRecord form n text (Err fault) = record_fault form n text ≡ Some fault
