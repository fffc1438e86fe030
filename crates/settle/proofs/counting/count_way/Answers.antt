use Rattle.std.proofs.Common.{sym, refl}
use Rattle.settle.proofs.Counts.{counting-room, counting-passes, counting-drops}
use Rattle.settle.proofs.counting.count_way.Goals as goal

pub with_visit-requires : goal.with_visit-requires
with_visit-requires c = counting-room c.loop-pipe.invariant c.requires.tally c.requires.named c.loop-pipe-test.true refl c.index.ensures

pub with_visit-requires-in-loop-pipe : goal.with_visit-requires-in-loop-pipe
with_visit-requires-in-loop-pipe c = counting-room c.loop-pipe.invariant c.requires.tally c.requires.named c.loop-pipe-test.true
    refl c.index-in-loop-pipe.ensures

pub loop-pipe-preserved : goal.loop-pipe-preserved
loop-pipe-preserved c =
    counting-passes c.loop-pipe.invariant
    (record {
      within = c.loop-pipe-test.true;
      pipe_is = refl;
      written = refl;
      counted_is = c.with_visit-in-loop-pipe.ensures;
      read = c.index-in-loop-pipe.ensures;
    })
    c.requires.named (sym c.in_default.ensures)

pub returns-in-Some : goal.returns-in-Some
returns-in-Some c =
    counting-drops c.loop-pipe.invariant
    (record {
      within = c.loop-pipe-test.true;
      pipe_is = refl;
      written = refl;
      counted_is = c.with_visit.ensures;
      read = c.index.ensures;
    })
    c.requires.named (sym c.in-Some.ensures)
