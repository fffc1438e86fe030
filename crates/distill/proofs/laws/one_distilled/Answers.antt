use Rattle.distill.proofs.OneDistilled.{one_distilled}
use Rattle.distill.proofs.laws.one_distilled.Goals as goal

pub returns : goal.returns
returns c = one_distilled
