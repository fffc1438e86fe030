use Rattle.std.proofs.Common.{length}
use Rattle.journal_check.proofs.Going.{IsAt}
use Rattle.journal_check.proofs.checking.compare.Given as goal

-- the text begins with the lines of the visits so far
abbrev pub invariant-loop-line : goal.invariant-loop-line
invariant-loop-line l = IsAt l.setup l.text l.visits l.rest l.count

-- what is left of it
abbrev pub decreases-loop-line : goal.decreases-loop-line
decreases-loop-line l = length l.rest
