use Rattle.report.proofs.InPlace.{IsTimedTo}
use Rattle.report.proofs.leaving.set_times.Given as goal

abbrev pub invariant-loop-index : goal.invariant-loop-index
invariant-loop-index l = IsTimedTo l.setup l.index l.fates l.initial.packets.items l.packets.items
