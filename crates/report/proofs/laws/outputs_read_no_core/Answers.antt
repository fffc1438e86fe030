use Rattle.report.proofs.NoCores.{outputs_read_no_core}
use Rattle.report.proofs.laws.outputs_read_no_core.Goals as goal

pub returns : goal.returns
returns c = outputs_read_no_core
