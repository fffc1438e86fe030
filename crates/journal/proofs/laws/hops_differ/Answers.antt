use Rattle.journal.proofs.Ends.{hops_differ}
use Rattle.journal.proofs.laws.hops_differ.Goals as goal

pub returns : goal.returns
returns c = hops_differ c.args.setup.now c.parts-parts.ensures.kept
