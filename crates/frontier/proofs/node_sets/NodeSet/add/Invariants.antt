use Rattle.std.proofs.Common.{◌≡◌, ℕ, ◌||◌, length, take}
use Rattle.frontier.specs.NodeSets.{has, is_in}
use Rattle.frontier.proofs.node_sets.NodeSet.add.Given as goal

abbrev pub invariant-loop-node : goal.invariant-loop-node
invariant-loop-node l = record {
  size : length l.self ≡ length l.initial.self;
  added : (v : ℕ) → has l.self v ≡ (has l.initial.self v || is_in v (take l.node-index l.nodes));
}
