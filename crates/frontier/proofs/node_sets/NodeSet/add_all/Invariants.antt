use Rattle.std.proofs.Common.{◌≡◌, ℕ, ◌||◌, length, map, take}
use Rattle.frontier.specs.NodeSets.{has, is_in_one}
use Rattle.frontier.proofs.node_sets.NodeSet.add_all.Given as goal

abbrev pub invariant-loop-list : goal.invariant-loop-list
invariant-loop-list l = record {
  size : length l.self ≡ length l.initial.self;
  added : (v : ℕ) → has l.self v ≡ (has l.initial.self v || is_in_one v (map (λ list. list.items) (take l.list-index l.lists)));
}
