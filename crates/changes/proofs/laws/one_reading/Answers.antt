use Rattle.changes.proofs.Readings.{one_reading}
use Rattle.changes.proofs.laws.one_reading.Goals as goal

pub returns : goal.returns
returns c = one_reading
