-- The first fault of nodes and edges, in the order in which they are told.
use Rattle.std.specs.Prelude.{ℕ, ◌+◌, Bool, not, ◌&&◌, nat_lt, List, [], ◌∷◌, length, take, Option, Some, None, is_some, if◌then◌else◌, option_and_then}
use Rattle.std.specs.List.{list_any, count_by}
use Rattle.std.specs.Option.{option_or}
use Rattle.mn_base.specs.Ranges.{is_bandwidth, is_latency, is_queue_limit, is_loss}
use Rattle.mn_base.specs.declared.limits.TheConstants.{NODES_MAX, EDGE_NODES_MAX, LINKS_MAX}
use Rattle.topo.specs.declared.parts.Node.{Node}
use Rattle.topo.specs.declared.parts.EdgeSpec.{EdgeSpec}
use Rattle.topo.specs.declared.keys.Key.TheVariants as key
use Rattle.topo.specs.declared.faults.Many.TheVariants as many
use Rattle.topo.specs.declared.faults.TopoFault.{TopoFault}
use Rattle.topo.specs.declared.faults.TopoFault.TheVariants.{TooMany, DuplicateId, DuplicateAddress, UnknownNode, Range}
use Rattle.topo.specs.Nodes.{has_id, has_address, is_edge_node, node_with}
use Rattle.topo.specs.Links.{links_of}

-- the first fault of items that are numbered from n on
abbrev pub first_fault : {X F : Type 0} → (ℕ → X → Option F) → ℕ → List X → Option F
first_fault fault n [] = None
first_fault fault n (x ∷ xs) = option_or (fault n x) (first_fault fault (n + 1) xs)

abbrev pub node_count_fault : List Node → Option TopoFault
node_count_fault nodes =
    if nat_lt NODES_MAX (length nodes) then Some (TooMany many.Nodes) else
    (if nat_lt EDGE_NODES_MAX (count_by is_edge_node nodes) then Some (TooMany many.EdgeNodes) else None)

-- an earlier node has the id of node n
abbrev pub id_fault : List Node → ℕ → Node → Option TopoFault
id_fault nodes n node = if list_any (has_id node.id) (take n nodes) then Some (DuplicateId n) else None

-- node n has an address, and an earlier node has it too
abbrev pub address_fault : List Node → ℕ → Node → Option TopoFault
address_fault nodes n node =
    option_and_then (λ a. if list_any (has_address a) (take n nodes) then Some (DuplicateAddress n) else None) node.address

-- the fault of edge e; `find` gives the number of the node with an id
abbrev pub edge_fault : (ℕ → Option ℕ) → ℕ → EdgeSpec → Option TopoFault
edge_fault find e edge =
    if not (is_some (find edge.source) && is_some (find edge.target)) then Some (UnknownNode e) else
    (if not (is_bandwidth edge.bps) then Some (Range e key.Bandwidth) else
    (if not (is_latency edge.latency_us) then Some (Range e key.Latency) else
    (if not (is_queue_limit edge.queue) then Some (Range e key.Queue) else
    (if not (is_loss edge.ppm) then Some (Range e key.Loss) else None))))

abbrev pub link_count_fault : Bool → (ℕ → Option ℕ) → List EdgeSpec → Option TopoFault
link_count_fault directed find edges =
    if nat_lt LINKS_MAX (length (links_of directed find edges)) then Some (TooMany many.Links) else None

-- the first fault, or none where nodes and edges make a topology
abbrev pub topo_fault : List Node → List EdgeSpec → Bool → Option TopoFault
topo_fault nodes edges directed =
    option_or (node_count_fault nodes) (
    option_or (first_fault (id_fault nodes) 0 nodes) (
    option_or (first_fault (address_fault nodes) 0 nodes) (
    option_or (first_fault (edge_fault (node_with nodes)) 0 edges) (
    link_count_fault directed (node_with nodes) edges))))
