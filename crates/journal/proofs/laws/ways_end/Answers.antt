use Rattle.journal.proofs.Ends.{ways_end}
use Rattle.journal.proofs.laws.ways_end.Goals as goal

pub returns : goal.returns
returns c = ways_end c.args.setup.now c.parts-parts.ensures.kept
