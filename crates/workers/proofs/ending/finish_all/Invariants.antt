use Rattle.std.proofs.Common.{◌≤◌, length, vec_capacity}
use Rattle.std.specs.List.{AllZip}
use Rattle.core_loop.proofs.Tallying.{IsCounted}
use Rattle.workers.specs.Places.{IsRanAt}
use Rattle.workers.proofs.ending.finish_all.Given as goal

abbrev pub invariant-loop-place : goal.invariant-loop-place
invariant-loop-place l = record {
  ran : AllZip IsRanAt l.yielded l.all.items;
  tally : IsCounted l.fn.setup l.initial.tally (length l.yielded) l.tally;
  room : length l.fn.places.items ≤ vec_capacity l.all;
}
