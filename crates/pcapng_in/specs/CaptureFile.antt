-- What a file says, whatever its format (`text` is its bytes), and what is wrong with it first.
use Rattle.std.specs.Prelude.{◌≡◌, ℕ, ◌⊎◌, List, [], ◌∷◌, take}
use Rattle.pcap_io.specs.Capture.{Capture}
use Rattle.pcap_io.specs.Faults.{PcapFirst}
use Rattle.pcap_io.specs.Reading.{Pcap}
use Rattle.pcapng_in.specs.declared.fault.CaptureFault.{CaptureFault}
use Rattle.pcapng_in.specs.declared.fault.CaptureFault.TheVariants as fault
use Rattle.pcapng_in.specs.declared.fault.CaptureFault.TheVariants.{Ng}
use Rattle.pcapng_in.specs.Reading.{Pcapng, NgFirst}

-- a file that begins with the type of a section header is pcapng
abbrev pub BeginsNg : List ℕ → Type 0
BeginsNg text = take 4 text ≡ 0x0a ∷ 0x0d ∷ 0x0d ∷ 0x0a ∷ []

-- the file says this trace, by its format
abbrev pub SaysTrace : List ℕ → Capture → Type 0
SaysTrace text trace = (BeginsNg text × Pcapng text trace) ⊎ ((BeginsNg text → ⊥) × Pcap text trace)

-- this fault is the first of the file, by its format
abbrev pub CaptureFirst : List ℕ → CaptureFault → Type 0
CaptureFirst text (Ng told) = BeginsNg text × NgFirst text told
CaptureFirst text (fault.Pcap told) = (BeginsNg text → ⊥) × PcapFirst text told
