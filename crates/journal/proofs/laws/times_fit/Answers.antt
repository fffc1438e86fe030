use Rattle.journal.proofs.Outputs.{times_fit}
use Rattle.journal.proofs.laws.times_fit.Goals as goal

pub returns : goal.returns
returns c = times_fit c.args.setup.now c.parts-parts.ensures.kept
