use Rattle.settle.proofs.Counts.{IsCounting}
use Rattle.settle.proofs.counting.count_way.Given as goal

abbrev pub invariant-loop-pipe : goal.invariant-loop-pipe
invariant-loop-pipe l = IsCounting l.route l.fn.fate l.pipe-index l.initial.all.items l.all.items
