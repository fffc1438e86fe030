use Rattle.journal.proofs.Ends.{hops_are_later}
use Rattle.journal.proofs.laws.hops_are_later.Goals as goal

pub returns : goal.returns
returns c = hops_are_later c.args.setup.now c.parts-parts.ensures.kept
