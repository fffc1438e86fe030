use Rattle.plan.proofs.FirstFaults.{one_fault}
use Rattle.plan.proofs.laws.one_fault.Goals as goal

pub returns : goal.returns
returns c = λ t options text fault other first second. one_fault t options text fault other first second
