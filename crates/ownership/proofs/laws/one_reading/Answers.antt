use Rattle.ownership.proofs.Readings.{one_reading}
use Rattle.ownership.proofs.laws.one_reading.Goals as goal

pub returns : goal.returns
returns c = one_reading
