use Rattle.std.proofs.Common.{◌≡◌, length}
use Rattle.core_loop.proofs.IdlePipes.{OwnBelow}
use Rattle.core_loop.proofs.own_pipes.OwnPipes.idle.Given as goal

abbrev pub invariant-loop-pipe : goal.invariant-loop-pipe
invariant-loop-pipe l = record {
  below : OwnBelow l.fn.setup l.fn.core (length l.index_of.items) l.index_of.items l.pipes.items l.counts.items;
  met : length l.yielded ≡ length l.index_of.items;
}
