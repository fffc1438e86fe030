use Rattle.settle.proofs.Sums.{packets_are_counted}
use Rattle.settle.proofs.laws.packets_are_counted.Goals as goal

pub returns : goal.returns
returns c = packets_are_counted
