use Rattle.mn_base.proofs.Decimals.{decimal_reads_back}
use Rattle.mn_base.proofs.laws.decimal_reads_back.Goals as goal

pub returns : goal.returns
returns c = decimal_reads_back
