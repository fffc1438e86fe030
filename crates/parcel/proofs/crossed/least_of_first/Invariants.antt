use Rattle.mn_base.specs.declared.limits.TheConstants.{LOOKAHEAD_MAX}
use Rattle.parcel.specs.PipeSets.{IsLeastOf, IsFirstLatency}
use Rattle.parcel.proofs.crossed.least_of_first.Given as goal

abbrev pub invariant-loop-pipe : goal.invariant-loop-pipe
invariant-loop-pipe l = IsLeastOf LOOKAHEAD_MAX (IsFirstLatency l.parts l.crossed) l.pipe l.least
