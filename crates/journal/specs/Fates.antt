-- What becomes of a packet.
use Rattle.std.specs.Prelude.{ℕ, ◌==◌, List, Option, find, reverse}
use Rattle.std.specs.Option.{option_map_or}
use Rattle.mn_base.specs.declared.causes.Cause.TheVariants.{Loss, Full}
use Rattle.pipe.specs.declared.step.Step.{Step}
use Rattle.pipe.specs.declared.step.Step.TheVariants.{Lost, Full as QueueFull, Pass}
use Rattle.journal.specs.declared.setup.PacketPlan.{PacketPlan}
use Rattle.journal.specs.declared.visit.Visit.{Visit}
use Rattle.journal.specs.declared.fate.Fate.{Fate}
use Rattle.journal.specs.declared.fate.Fate.TheVariants.{Left, Dropped}
use Rattle.journal.specs.SetupView.{SetupView}
use Rattle.journal.specs.Journal.{journal_of}

-- what becomes of a packet whose way ends at this pipe and tick with this step
abbrev pub fate_of_step : ℕ → ℕ → Step → Fate
fate_of_step pipe tick Lost = Dropped pipe tick Loss
fate_of_step pipe tick QueueFull = Dropped pipe tick Full
fate_of_step pipe tick (Pass exit) = Left exit

-- the visit that ends the way of its packet says what becomes of it
abbrev pub fate_of_visit : Visit → Fate
fate_of_visit v = fate_of_step v.pipe v.tick v.step

-- the last visit of a packet
abbrev pub last_visit : List Visit → ℕ → Option Visit
last_visit J number = find (λ v. v.packet == number) (reverse J)

-- what the last visit of a packet so far makes of it; one that visited no pipe leaves at its entry tick
abbrev pub fate_after : List Visit → PacketPlan → Fate
fate_after J p = option_map_or fate_of_visit (last_visit J p.number) (Left p.entry_tick)

-- the fate of a packet of the setup
abbrev pub fate_of : SetupView → PacketPlan → Fate
fate_of S p = fate_after (journal_of S) p
