use Rattle.distill.proofs.Narrowest.{narrowest_is_first}
use Rattle.distill.proofs.laws.narrowest_is_first.Goals as goal

pub returns : goal.returns
returns c = narrowest_is_first
