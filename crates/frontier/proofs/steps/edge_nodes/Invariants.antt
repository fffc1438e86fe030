use Rattle.std.proofs.Common.{◌≡◌, filter, slice_index_or}
use Rattle.std.specs.List.{range_with_len}
use Rattle.topo.specs.Nodes.{is_edge_node}
use Rattle.topo.specs.Nodes.{no_node}
use Rattle.frontier.proofs.steps.edge_nodes.Given as goal

abbrev pub invariant-loop-node : goal.invariant-loop-node
invariant-loop-node l = l.edge_nodes.items ≡ filter (λ v. is_edge_node (slice_index_or l.nodes v no_node)) (range_with_len 0 l.node)
