-- What the laws say.
use Rattle.std.specs.Prelude.{◌≡◌, ℕ, ◌/◌, ◌^◌, ◌≤◌, ◌⊎◌, List}
use Rattle.std.specs.List.{All}
use Rattle.mn_base.specs.declared.limits.TheConstants.{RECORD_SECONDS_MAX}
use Rattle.pcap_io.specs.declared.fault.PcapFault.{PcapFault}
use Rattle.pcap_io.specs.Capture.{Capture, IsTrace}
use Rattle.pcap_io.specs.Reading.{Pcap}
use Rattle.pcap_io.specs.Faults.{PcapFirst}
use Rattle.pcap_io.specs.Writing.{pcap_text}

-- the written form of a trace whose seconds can be read says that trace
abbrev pub ReadsBack : Type 0
ReadsBack =
    (trace : Capture) → IsTrace trace → All (λ packet. packet.time_ns / 10 ^ 9 ≤ RECORD_SECONDS_MAX) trace.packets
    → Pcap (pcap_text trace) trace

-- a file says one trace at most
abbrev pub OneReading : Type 0
OneReading = (text : List ℕ) (trace other : Capture) → Pcap text trace → Pcap text other → trace ≡ other

-- a file that says a trace has no first fault
abbrev pub NeverBoth : Type 0
NeverBoth = (text : List ℕ) (trace : Capture) (fault : PcapFault) → Pcap text trace → PcapFirst text fault → ⊥

-- a file has one first fault at most
abbrev pub OneFault : Type 0
OneFault = (text : List ℕ) (fault other : PcapFault) → PcapFirst text fault → PcapFirst text other → fault ≡ other

-- each file says a trace or has a first fault
abbrev pub EachTextIsAnswered : Type 0
EachTextIsAnswered = (text : List ℕ) → ((trace : Capture) × Pcap text trace) ⊎ ((fault : PcapFault) × PcapFirst text fault)
