use Rattle.ownership.proofs.Printed.{printed_reads_back}
use Rattle.ownership.proofs.laws.printed_reads_back.Goals as goal

pub returns : goal.returns
returns c = printed_reads_back
