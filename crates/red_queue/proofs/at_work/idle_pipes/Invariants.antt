use Rattle.std.proofs.Common.{◌≡◌, vec_len}
use Rattle.red_queue.specs.Making.{AreIdle}
use Rattle.red_queue.proofs.at_work.idle_pipes.Given as goal

abbrev pub invariant-loop-number : goal.invariant-loop-number
invariant-loop-number l = record {
  count : vec_len l.pipes ≡ l.number;
  idle : AreIdle l.setup l.pipes.items;
}
