-- What the laws say.
use Rattle.std.specs.Prelude.{◌≡◌, ℕ, ◌⊎◌, List}
use Rattle.pcap_io.specs.Capture.{Capture}
use Rattle.pcap_io.specs.Writing.{pcap_text}
use Rattle.pcapng_in.specs.declared.fault.CaptureFault.{CaptureFault}
use Rattle.pcapng_in.specs.Reading.{Pcapng}
use Rattle.pcapng_in.specs.CaptureFile.{SaysTrace, CaptureFirst}

-- a file says one trace at most
abbrev pub OneReading : Type 0
OneReading = (text : List ℕ) (trace other : Capture) → SaysTrace text trace → SaysTrace text other → trace ≡ other

-- a file that says a trace has no first fault
abbrev pub NeverBoth : Type 0
NeverBoth = (text : List ℕ) (trace : Capture) (fault : CaptureFault) → SaysTrace text trace → CaptureFirst text fault → ⊥

-- a file has one first fault at most
abbrev pub OneFault : Type 0
OneFault = (text : List ℕ) (fault other : CaptureFault) → CaptureFirst text fault → CaptureFirst text other → fault ≡ other

-- each file says a trace or has a first fault
abbrev pub EachTextIsAnswered : Type 0
EachTextIsAnswered = (text : List ℕ) → ((trace : Capture) × SaysTrace text trace) ⊎ ((fault : CaptureFault) × CaptureFirst text fault)

-- the trace of a pcapng file, written as a classic capture, says that trace
abbrev pub SaysTheSameAsPcap : Type 0
SaysTheSameAsPcap = (text : List ℕ) (trace : Capture) → Pcapng text trace → SaysTrace (pcap_text trace) trace
