use Rattle.std.proofs.Common.{length}
use Rattle.ownership.proofs.Taking.{OwnedSoFar}
use Rattle.ownership.proofs.near.NearPipes.take_unowned.Given as goal

-- what was taken out so far has an owner, and nothing was added
abbrev pub invariant-owned : goal.invariant-owned
invariant-owned l = OwnedSoFar l.owners l.initial.self l.self

abbrev pub decreases-owned : goal.decreases-owned
decreases-owned l = length l.self
