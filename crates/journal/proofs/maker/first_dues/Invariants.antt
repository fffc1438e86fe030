use Rattle.std.proofs.Common.{◌<◌, AllPairs}
use Rattle.journal.specs.Held.{HaveEntered}
use Rattle.journal.proofs.maker.first_dues.Given as goal

abbrev pub invariant-loop-index : goal.invariant-loop-index
invariant-loop-index l = record {
  entered : HaveEntered l.setup l.index l.firsts.items;
  rising : AllPairs (λ v w. v.due.packet < w.due.packet) l.firsts.items;
}
