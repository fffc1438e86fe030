use Rattle.settle.proofs.NoCores.{outcomes_read_no_core}
use Rattle.settle.proofs.laws.outcomes_read_no_core.Goals as goal

pub returns : goal.returns
returns c = outcomes_read_no_core
