use Rattle.std.proofs.Common.{◌≡◌, ◌&&◌, ◌||◌, not, filter}
use Rattle.std.specs.List.{range_with_len}
use Rattle.frontier.specs.NodeSets.{has}
use Rattle.walk_out.proofs.walks.border_of.Given as goal

abbrev pub invariant-loop-node : goal.invariant-loop-node
invariant-loop-node l = l.border.items ≡ filter (λ v. has l.first v || (not (has l.outer v) && has l.near v)) (range_with_len 0 l.node)
