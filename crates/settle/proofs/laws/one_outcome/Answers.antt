use Rattle.settle.proofs.OneOutcome.{outcomes_agree}
use Rattle.settle.proofs.laws.one_outcome.Goals as goal

pub returns : goal.returns
returns c = outcomes_agree
