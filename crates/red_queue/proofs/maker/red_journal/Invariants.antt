use Rattle.std.proofs.Common.{◌-◌, ◌*◌, length}
use Rattle.red_queue.specs.Making.{IsRedMaking}
use Rattle.red_queue.proofs.maker.red_journal.Given as goal

abbrev pub invariant-loop-next : goal.invariant-loop-next
invariant-loop-next l = IsRedMaking l.setup l.visits.items l.maker.pipes.items l.maker.due

abbrev pub decreases-loop-next : goal.decreases-loop-next
decreases-loop-next l = length l.setup.packets * length l.setup.pipes - length l.visits.items
