-- What holds of pipes in a row and their packets.
use Rattle.std.specs.Prelude.{◌≡◌, ℕ, ◌+◌, ◌*◌, ◌<◌, List, Some, slice_get}
use Rattle.mn_base.specs.Among.{Among}
use Rattle.mn_base.specs.declared.limits.TheConstants.{ROUTE_DELAY_NS_END}
use Rattle.red_queue.specs.declared.setup.RedPacket.{RedPacket}
use Rattle.red_queue.specs.declared.step.RedStep.TheVariants.{Pass}
use Rattle.red_queue.specs.declared.fate.RedFate.{RedFate}
use Rattle.red_queue.specs.declared.fate.RedFate.TheVariants.{Left}
use Rattle.red_queue.specs.declared.visit.RedVisit.{RedVisit}
use Rattle.red_queue.specs.SetupView.{RedSetupView}
use Rattle.red_queue.specs.Journal.{IsRedJournal}

-- there is at most one journal
abbrev pub HasOneRedJournal : RedSetupView → Type 0
HasOneRedJournal R = (J K : List RedVisit) → IsRedJournal R J → IsRedJournal R K → J ≡ K

-- each visit is of a packet, which leaves the pipe, if it passes, less than 5.5 * 10^17 ns after it entered
abbrev pub ExitsFit : RedSetupView → List RedVisit → Type 0
ExitsFit R J =
    (v : RedVisit) (exit : ℕ) (p : RedPacket) → Among v J → v.step ≡ Pass exit → slice_get R.packets v.packet ≡ Some p
    → exit * R.tick_ns < p.entry_tick * R.tick_ns + ROUTE_DELAY_NS_END

-- each packet that leaves does so less than 5.5 * 10^17 ns after it entered
abbrev pub AllLeaveInTime : RedSetupView → List RedFate → Type 0
AllLeaveInTime R fates =
    (number tick : ℕ) (p : RedPacket) → slice_get fates number ≡ Some (Left tick) → slice_get R.packets number ≡ Some p
    → tick * R.tick_ns < p.entry_tick * R.tick_ns + ROUTE_DELAY_NS_END
