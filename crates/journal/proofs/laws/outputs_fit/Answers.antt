use Rattle.journal.proofs.Outputs.{outputs_fit}
use Rattle.journal.proofs.laws.outputs_fit.Goals as goal

pub returns : goal.returns
returns c = outputs_fit c.args.setup.now c.parts-parts.ensures.kept
