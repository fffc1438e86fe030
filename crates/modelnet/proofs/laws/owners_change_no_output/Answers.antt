use Rattle.modelnet.proofs.OtherCores.{owners_change_no_output}
use Rattle.modelnet.proofs.laws.owners_change_no_output.Goals as goal

pub returns : goal.returns
returns c = owners_change_no_output
