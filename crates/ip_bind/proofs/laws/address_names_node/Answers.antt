use Rattle.ip_bind.proofs.NamedNodes.{address_names_node}
use Rattle.ip_bind.proofs.laws.address_names_node.Goals as goal

pub returns : goal.returns
returns c = address_names_node
