use Rattle.journal.proofs.Ends.{hops_wait}
use Rattle.journal.proofs.laws.hops_wait.Goals as goal

pub returns : goal.returns
returns c = hops_wait c.args.setup.now c.parts-parts.ensures.kept
