use Rattle.std.proofs.Common.{◌-◌}
use Rattle.journal.specs.Journal.{hop_count}
use Rattle.journal.proofs.FatesSoFar.{AreFatesSoFar}
use Rattle.journal.proofs.packet_fates.fates.Given as goal

abbrev pub invariant-loop-next : goal.invariant-loop-next
invariant-loop-next l = AreFatesSoFar l.setup l.maker.pipes.items l.maker.due l.maker.made l.fates.items

abbrev pub decreases-loop-next : goal.decreases-loop-next
decreases-loop-next l = hop_count l.setup - l.maker.made
