-- Nodes by their addresses.
use Rattle.std.specs.Prelude.{ℕ, List, Option, position}
use Rattle.topo.specs.declared.parts.Node.{Node}
use Rattle.topo.specs.Nodes.{has_address}

-- the number of the node with this address
abbrev pub node_with_address : List Node → ℕ → Option ℕ
node_with_address nodes address = position (has_address address) nodes
