use Rattle.ip_bind.proofs.NamedNodes.{address_of_no_node}
use Rattle.ip_bind.proofs.laws.address_of_no_node.Goals as goal

pub returns : goal.returns
returns c = address_of_no_node
