-- What becomes of a packet.
use Rattle.std.specs.Prelude.{ℕ, ◌==◌, nat_lt, List, length, Option, find, reverse, map, slice_set, if◌then◌else◌}
use Rattle.std.specs.List.{enumerate_from}
use Rattle.std.specs.Option.{option_map_or}
use Rattle.red_queue.specs.declared.setup.RedPacket.{RedPacket}
use Rattle.red_queue.specs.declared.step.RedStep.{RedStep}
use Rattle.red_queue.specs.declared.step.RedStep.TheVariants as step
use Rattle.red_queue.specs.declared.fate.RedFate.{RedFate}
use Rattle.red_queue.specs.declared.fate.RedFate.TheVariants.{Left, Dropped}
use Rattle.red_queue.specs.declared.fate.RedCause.TheVariants.{Loss, Early, Full}
use Rattle.red_queue.specs.declared.visit.RedVisit.{RedVisit}
use Rattle.red_queue.specs.SetupView.{RedSetupView}

-- what becomes of a packet whose way ends at this pipe and tick with this step
abbrev pub red_fate_of_step : ℕ → ℕ → RedStep → RedFate
red_fate_of_step pipe tick step.Lost = Dropped pipe tick Loss
red_fate_of_step pipe tick step.Early = Dropped pipe tick Early
red_fate_of_step pipe tick step.Full = Dropped pipe tick Full
red_fate_of_step pipe tick (step.Pass exit) = Left exit

-- the visit that ends the way of its packet says what becomes of it
abbrev pub red_fate_of_visit : RedVisit → RedFate
red_fate_of_visit v = red_fate_of_step v.hop v.tick v.step

-- the last visit of a packet
abbrev pub last_red_visit : List RedVisit → ℕ → Option RedVisit
last_red_visit J number = find (λ v. v.packet == number) (reverse J)

-- a packet without a visit leaves at its entry tick
abbrev pub entry_fate : RedPacket → RedFate
entry_fate p = Left p.entry_tick

-- what the last visit of a packet makes of it
abbrev pub red_fate_after : List RedVisit → ℕ × RedPacket → RedFate
red_fate_after J numbered = option_map_or red_fate_of_visit (last_red_visit J numbered.0) (entry_fate numbered.1)

-- the fates of all packets by these visits, by their numbers
abbrev pub fates_by : RedSetupView → List RedVisit → List RedFate
fates_by R J = map (red_fate_after J) (enumerate_from 0 R.packets)

-- fates with that of a visit written at its packet's number, if there is one
abbrev pub with_fate : List RedFate → RedVisit → List RedFate
with_fate fates v = if nat_lt v.packet (length fates) then slice_set fates v.packet (red_fate_of_visit v) else fates
