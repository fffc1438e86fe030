use Rattle.std.proofs.Common.{rules}
use Rattle.ownership.proofs.PrintingSteps.{misses_here}
use Rattle.ownership.proofs.reading.all_owned.Goals as goal

pub returns-in_default-clause-missed : goal.returns-in_default-clause-missed
returns-in_default-clause-missed c =
    misses_here c.args.owners.now c.loop-pipe.cores.items c.loop-pipe.pipe c.loop-pipe.invariant c.loop-pipe-test.true (search rules)
