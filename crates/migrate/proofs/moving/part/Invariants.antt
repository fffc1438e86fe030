use Rattle.std.proofs.Common.{length}
use Rattle.migrate.proofs.Parting.{IsParting}
use Rattle.migrate.proofs.moving.part.Given as goal

abbrev pub invariant-loop-due : goal.invariant-loop-due
invariant-loop-due l = IsParting l.setup l.pipe l.fn.all l.all l.going.items l.staying

abbrev pub decreases-loop-due : goal.decreases-loop-due
decreases-loop-due l = length l.all
