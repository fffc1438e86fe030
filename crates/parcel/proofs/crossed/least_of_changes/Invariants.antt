use Rattle.parcel.specs.PipeSets.{IsLeastOf, IsChangedLatency}
use Rattle.parcel.proofs.crossed.least_of_changes.Given as goal

abbrev pub invariant-loop-change : goal.invariant-loop-change
invariant-loop-change l = IsLeastOf l.latency (IsChangedLatency l.parts l.crossed) l.change-index l.least
