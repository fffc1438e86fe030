use Rattle.settle.proofs.Tallies.{CountsBelow}
use Rattle.settle.proofs.counting.count_visits.Given as goal

abbrev pub invariant-loop-index : goal.invariant-loop-index
invariant-loop-index l = CountsBelow l.setup l.index l.all.items
