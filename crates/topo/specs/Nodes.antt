-- Nodes by their ids and addresses. A node's number is its index.
use Rattle.std.specs.Prelude.{ℕ, ◌==◌, Bool, false, List, length, filter, Option, None, is_some, position, slice_index_or}
use Rattle.std.specs.List.{range_with_len}
use Rattle.std.specs.Option.{option_map_or}
use Rattle.topo.specs.declared.parts.Node.{Node}

abbrev pub has_id : ℕ → Node → Bool
has_id id node = node.id == id

abbrev pub has_address : ℕ → Node → Bool
has_address address node = option_map_or (λ a. a == address) node.address false

-- an edge node is one with an address
abbrev pub is_edge_node : Node → Bool
is_edge_node node = is_some node.address

-- the number of the node with this id
abbrev pub node_with : List Node → ℕ → Option ℕ
node_with nodes id = position (has_id id) nodes

-- what stands at numbers that no node has
abbrev pub no_node : Node
no_node = record { id = 0; address = None }

-- the numbers of the edge nodes, in order
abbrev pub edge_nodes_of : List Node → List ℕ
edge_nodes_of nodes = filter (λ n. is_edge_node (slice_index_or nodes n no_node)) (range_with_len 0 (length nodes))
