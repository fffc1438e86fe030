use Rattle.journal.proofs.Ends.{fates_hold}
use Rattle.journal.proofs.laws.fates_hold.Goals as goal

pub returns : goal.returns
returns c = fates_hold c.args.setup.now c.parts-parts.ensures.kept
