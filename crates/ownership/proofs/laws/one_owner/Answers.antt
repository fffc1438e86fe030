use Rattle.ownership.proofs.EachOnce.{one_owner}
use Rattle.ownership.proofs.laws.one_owner.Goals as goal

pub returns : goal.returns
returns c = one_owner
