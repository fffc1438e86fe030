use Rattle.topo.proofs.EdgeNodes.{edge_nodes_in_order}
use Rattle.topo.proofs.laws.edge_nodes_in_order.Goals as goal

pub returns : goal.returns
returns c = edge_nodes_in_order
