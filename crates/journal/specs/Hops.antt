-- Which visits of a packet are due: its first, and the next hop after each visit that passed.
use Rattle.std.specs.Prelude.{ℕ, ◌+◌, nat_lt, length, Option, Some, None, slice_index, if◌then◌else◌}
use Rattle.mn_base.specs.declared.due.Due.{Due}
use Rattle.pipe.specs.declared.step.Step.{Step}
use Rattle.pipe.specs.declared.step.Step.TheVariants.{Lost, Full, Pass}
use Rattle.journal.specs.declared.setup.PacketPlan.{PacketPlan}
use Rattle.journal.specs.declared.visit.Visit.{Visit}
use Rattle.journal.specs.SetupView.{SetupView, route_of}

-- the due visit that a visit was
abbrev pub due_of : Visit → Due
due_of v = record { tick = v.tick; packet = v.packet; hop = v.hop }

-- the pipe of a visit, by the packet's route
abbrev pub pipe_of : SetupView → Due → ℕ
pipe_of S x = slice_index (route_of S x.packet) x.hop

-- a packet with a nonempty route comes to its first pipe when it enters
abbrev pub entry : SetupView → PacketPlan → Option Due
entry S p =
    if nat_lt 0 (length (route_of S p.number))
    then Some (record { tick = p.entry_tick; packet = p.number; hop = 0 })
    else None

-- a packet that passed comes to the next pipe of its route when it leaves this one
abbrev pub hop_after : SetupView → ℕ → ℕ → Step → Option Due
hop_after S packet hop Lost = None
hop_after S packet hop Full = None
hop_after S packet hop (Pass exit) =
    if nat_lt (hop + 1) (length (route_of S packet))
    then Some (record { tick = exit; packet = packet; hop = hop + 1 })
    else None

-- the visit that follows this one on its packet's way; none where the way ends
abbrev pub next_hop : SetupView → Visit → Option Due
next_hop S v = hop_after S v.packet v.hop v.step
