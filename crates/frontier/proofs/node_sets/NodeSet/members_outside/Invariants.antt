use Rattle.std.proofs.Common.{◌≡◌, ◌&&◌, not, filter}
use Rattle.std.specs.List.{range_with_len}
use Rattle.frontier.specs.NodeSets.{has}
use Rattle.frontier.proofs.node_sets.NodeSet.members_outside.Given as goal

abbrev pub invariant-loop-node : goal.invariant-loop-node
invariant-loop-node l = l.members.items ≡ filter (λ v. not (has l.other v) && has l.self v) (range_with_len 0 l.node)
