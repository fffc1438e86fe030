use Rattle.std.proofs.Common.{slice_index_or, length, ap, arith}
use Rattle.topo.specs.Nodes.{is_edge_node}
use Rattle.topo.specs.Nodes.{no_node}
use Rattle.frontier.proofs.Numbers.{All-below}
use Rattle.frontier.proofs.steps.edge_nodes.Goals as goal

pub returns-clause-below : goal.returns-clause-below
returns-clause-below c =
    All-below (λ v. is_edge_node (slice_index_or c.nodes-nodes.result.now v no_node)) c.loop-node.node _ _ c.loop-node.invariant
    (omega (arith, ap length c.nodes-nodes.ensures.lent))
