use Rattle.plan.proofs.OnePlan.{one_plan}
use Rattle.plan.proofs.laws.one_plan.Goals as goal

pub returns : goal.returns
returns c = one_plan
