use Rattle.changes.proofs.Readings.{never_both}
use Rattle.changes.proofs.laws.never_both.Goals as goal

pub returns : goal.returns
returns c = never_both
