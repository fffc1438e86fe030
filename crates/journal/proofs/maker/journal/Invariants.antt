use Rattle.std.proofs.Common.{◌-◌, length}
use Rattle.journal.specs.Journal.{hop_count}
use Rattle.journal.specs.Held.{IsMaking}
use Rattle.journal.proofs.maker.journal.Given as goal

abbrev pub invariant-loop-next : goal.invariant-loop-next
invariant-loop-next l = IsMaking l.setup l.visits.items l.maker.pipes.items l.maker.due l.maker.made

abbrev pub decreases-loop-next : goal.decreases-loop-next
decreases-loop-next l = hop_count l.setup - length l.visits.items
