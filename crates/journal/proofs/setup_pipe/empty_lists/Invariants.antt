use Rattle.std.proofs.Common.{◌≡◌, ◌≤◌, ◌-◌, [], map, replicate, vec_len}
use Rattle.journal.proofs.setup_pipe.empty_lists.Given as goal

abbrev pub invariant-loop-alloc : goal.invariant-loop-alloc
invariant-loop-alloc l = record {
  empty : map (λ list. list.items) l.lists.items ≡ replicate (vec_len l.lists) [];
  within : vec_len l.lists ≤ l.count;
}

abbrev pub decreases-loop-alloc : goal.decreases-loop-alloc
decreases-loop-alloc l = l.count - vec_len l.lists
