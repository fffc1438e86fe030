use Rattle.plan.proofs.FirstFaults.{never_both}
use Rattle.plan.proofs.laws.never_both.Goals as goal

pub returns : goal.returns
returns c = λ t trace options text planned fault is first. never_both t options text trace planned fault is first
