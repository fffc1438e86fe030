use Rattle.std.proofs.Common.{None}
use Rattle.ownership.specs.Assignment.{owned_after}
use Rattle.ownership.specs.Turning.{HoldsTurns}
use Rattle.ownership.proofs.assigning.assign.Given as goal

-- what is owned after the turns so far
abbrev pub invariant-loop-turn : goal.invariant-loop-turn
invariant-loop-turn l = HoldsTurns l.distilled l.cores (owned_after l.distilled l.cores l.turn) None l.turns
