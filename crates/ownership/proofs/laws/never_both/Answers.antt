use Rattle.ownership.proofs.Readings.{never_both}
use Rattle.ownership.proofs.laws.never_both.Goals as goal

pub returns : goal.returns
returns c = never_both
