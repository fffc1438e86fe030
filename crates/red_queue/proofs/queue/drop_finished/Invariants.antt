use Rattle.std.proofs.Common.{◌≡◌, ◌≤◌, length}
use Rattle.std.specs.List.Sorted.{IsNonDecreasing}
use Rattle.std.specs.VecDeque.{deque_len, deque_capacity}
use Rattle.pipe.specs.Finishes.{above}
use Rattle.red_queue.proofs.queue.drop_finished.Given as goal

abbrev pub invariant-loop-time : goal.invariant-loop-time
invariant-loop-time l = record {
  rising : IsNonDecreasing l.times.items;
  same : above l.now l.times.items ≡ above l.now l.initial.times.items;
  len : deque_len l.times ≤ deque_len l.initial.times;
  capacity : deque_capacity l.times ≡ deque_capacity l.initial.times;
}

abbrev pub decreases-loop-time : goal.decreases-loop-time
decreases-loop-time l = length l.times.items
