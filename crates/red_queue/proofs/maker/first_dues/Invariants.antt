use Rattle.std.proofs.Common.{◌<◌, AllPairs}
use Rattle.red_queue.specs.Making.{HaveRedEntered}
use Rattle.red_queue.proofs.maker.first_dues.Given as goal

abbrev pub invariant-loop-number : goal.invariant-loop-number
invariant-loop-number l = record {
  entered : HaveRedEntered l.setup l.number l.firsts.items;
  rising : AllPairs (λ v w. v.due.packet < w.due.packet) l.firsts.items;
}
