-- What the laws say.
use Rattle.std.specs.Prelude.{◌≡◌, ◌≢◌, ◌↔◌, ℕ, List, Option, Some, None, slice_get}
use Rattle.std.specs.Option.{option_and_then}
use Rattle.topo.specs.declared.parts.Node.{Node}
use Rattle.topo.specs.TopologyView.{TopologyView}
use Rattle.topo.specs.Topologies.{IsTopology}
use Rattle.ip_bind.specs.Books.{node_with_address}

-- the address of node n, if there is such a node and it has one
abbrev pub address_of_node : List Node → ℕ → Option ℕ
address_of_node nodes n = option_and_then (λ node. node.address) (slice_get nodes n)

-- in a topology an address finds node n if and only if node n has it
abbrev pub AddressNamesNode : Type 0
AddressNamesNode =
    (t : TopologyView) → IsTopology t → (address n : ℕ)
    → (node_with_address t.nodes address ≡ Some n) ↔ (address_of_node t.nodes n ≡ Some address)

-- an address finds no node if and only if no node has it
abbrev pub AddressOfNoNode : Type 0
AddressOfNoNode =
    (nodes : List Node) (address : ℕ) → (node_with_address nodes address ≡ None) ↔ ((n : ℕ) → address_of_node nodes n ≢ Some address)
