use Rattle.modelnet.proofs.OtherCores.{cores_change_no_output}
use Rattle.modelnet.proofs.laws.cores_change_no_output.Goals as goal

pub returns : goal.returns
returns c = cores_change_no_output
