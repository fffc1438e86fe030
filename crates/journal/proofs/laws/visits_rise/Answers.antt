use Rattle.journal.proofs.Ends.{visits_rise}
use Rattle.journal.proofs.laws.visits_rise.Goals as goal

pub returns : goal.returns
returns c = visits_rise c.args.setup.now c.parts-parts.ensures.kept
