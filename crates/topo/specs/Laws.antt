-- What a topology without a fault is, said of the given nodes and edges by themselves, and what its edge nodes are.
use Rattle.std.specs.Prelude.{◌≡◌, ◌≢◌, ◌↔◌, ℕ, ◌<◌, ◌≤◌, Bool, List, length, None, All, Any, AllPairs}
use Rattle.std.specs.List.{count_by}
use Rattle.std.specs.List.Sorted.{IsStrictlyIncreasing}
use Rattle.mn_base.specs.Ranges.{AreInRange}
use Rattle.mn_base.specs.declared.limits.TheConstants.{NODES_MAX, EDGE_NODES_MAX, LINKS_MAX}
use Rattle.topo.specs.declared.parts.Node.{Node}
use Rattle.topo.specs.declared.parts.EdgeSpec.{EdgeSpec}
use Rattle.topo.specs.TopologyView.{TopologyView}
use Rattle.topo.specs.Nodes.{is_edge_node, node_with, edge_nodes_of}
use Rattle.topo.specs.Links.{links_of}
use Rattle.topo.specs.Faults.{topo_fault}
use Rattle.topo.specs.Topologies.{DifferInAddress, IsTopology}

-- some node has the id
abbrev pub IsIdAmong : List Node → ℕ → Type 0
IsIdAmong nodes id = Any (λ node. node.id ≡ id) nodes

-- the ends are ids of nodes, and the values in their ranges
pub record IsEdgeAmong (nodes : List Node) (edge : EdgeSpec) : Type 0 where
  pub source : IsIdAmong nodes edge.source
  pub target : IsIdAmong nodes edge.target
  pub values : AreInRange edge.bps edge.latency_us edge.queue edge.ppm

-- nodes and edges that make a topology
pub record MakeTopology (nodes : List Node) (edges : List EdgeSpec) (directed : Bool) : Type 0 where
  pub few_nodes : length nodes ≤ NODES_MAX
  pub few_edge_nodes : count_by is_edge_node nodes ≤ EDGE_NODES_MAX
  pub ids : AllPairs (λ a b. a.id ≢ b.id) nodes
  pub addresses : AllPairs DifferInAddress nodes
  pub edges_hold : All (IsEdgeAmong nodes) edges
  pub few_links : length (links_of directed (node_with nodes) edges) ≤ LINKS_MAX

-- there is no first fault if and only if nodes and edges make a topology
abbrev pub FaultlessMakeTopology : Type 0
FaultlessMakeTopology =
    (nodes : List Node) (edges : List EdgeSpec) (directed : Bool)
    → (topo_fault nodes edges directed ≡ None) ↔ MakeTopology nodes edges directed

-- numbers of edge nodes: in order, each that of a node, and no more than the limit
pub record AreEdgeNodes (t : TopologyView) (numbers : List ℕ) : Type 0 where
  pub rising : IsStrictlyIncreasing numbers
  pub nodes : All (λ n. n < length t.nodes) numbers
  pub few : length numbers ≤ EDGE_NODES_MAX

abbrev pub EdgeNodesInOrder : Type 0
EdgeNodesInOrder = (t : TopologyView) → IsTopology t → AreEdgeNodes t (edge_nodes_of t.nodes)
