-- A pcapng file and the classic copy of its trace.
use Rattle.std.specs.Prelude.{◌≡◌, ◌↔◌, ℕ, List, ◌∷◌, ◌++◌}
use Rattle.mn_edge.specs.declared.role.Role.TheVariants.{Trace}
use Rattle.pcap_io.specs.Capture.{Capture}
use Rattle.pcap_io.specs.Writing.{pcap_text}
use Rattle.pcapng_in.specs.Reading.{Pcapng}
use Rattle.pcapng_in.specs.CaptureFile.{BeginsNg}
use Rattle.mn_words.specs.declared.order.Order.{Order}
use Rattle.modelnet.specs.declared.read_limits.ReadLimits.{ReadLimits}
use Rattle.modelnet.specs.Roles.{Input}
use Rattle.modelnet.specs.Commands.{Command, ReadInputs, inputs_of, bytes_read}
use Rattle.modelnet.specs.TheCommands.{row_of}

-- a command allows the same outputs where one of its inputs, between these others, has this text or that
abbrev pub AllowsSame : Command → ReadInputs → List ℕ → List ℕ → ReadInputs → Type 0
AllowsSame c front text other back = (written : List (List ℕ))
    → c.writes (bytes_read front ++ text ∷ bytes_read back) written ↔ c.writes (bytes_read front ++ other ∷ bytes_read back) written

-- each command allows the same outputs for a pcapng file and for what is written of its trace as a classic capture
abbrev pub PcapngIsReplayedAsItsCopy : Type 0
PcapngIsReplayedAsItsCopy = (limits : ReadLimits) (order : Order) (text : List ℕ) (trace : Capture) (front back : ReadInputs) (at : Input)
    → BeginsNg text → Pcapng text trace → at.role ≡ Trace
    → (row_of limits order).inputs ≡ inputs_of front ++ at ∷ inputs_of back
    → AllowsSame (row_of limits order) front text (pcap_text trace) back
