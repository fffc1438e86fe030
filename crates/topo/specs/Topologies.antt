-- What a topology is: its nodes and links, and what always holds of them.
use Rattle.std.specs.Prelude.{◌≡◌, ◌≢◌, ℕ, ◌<◌, ◌≤◌, Bool, List, length, Some, All, AllPairs}
use Rattle.std.specs.List.{count_by}
use Rattle.mn_base.specs.Ranges.{AreInRange}
use Rattle.mn_base.specs.declared.limits.TheConstants.{NODES_MAX, EDGE_NODES_MAX, LINKS_MAX}
use Rattle.topo.specs.declared.parts.Node.{Node}
use Rattle.topo.specs.declared.parts.EdgeSpec.{EdgeSpec}
use Rattle.topo.specs.declared.parts.Link.{Link}
use Rattle.topo.specs.TopologyView.{TopologyView}
use Rattle.topo.specs.Nodes.{is_edge_node, node_with}
use Rattle.topo.specs.Links.{links_of}

-- the ends are among so many nodes, and the values in their ranges
pub record IsLink (node_count : ℕ) (l : Link) : Type 0 where
  pub leaves : l.from < node_count
  pub enters : l.to < node_count
  pub values : AreInRange l.bps l.latency_us l.queue l.ppm

-- no address is that of both
abbrev pub DifferInAddress : Node → Node → Type 0
DifferInAddress a b = (x : ℕ) → a.address ≡ Some x → b.address ≢ Some x

pub record IsTopology (t : TopologyView) : Type 0 where
  pub few_nodes : length t.nodes ≤ NODES_MAX
  pub few_edge_nodes : count_by is_edge_node t.nodes ≤ EDGE_NODES_MAX
  pub few_links : length t.links ≤ LINKS_MAX
  pub ids : AllPairs (λ a b. a.id ≢ b.id) t.nodes
  pub addresses : AllPairs DifferInAddress t.nodes
  pub links_hold : All (IsLink (length t.nodes)) t.links

-- the nodes as they are given, and the links of the edges
abbrev pub topology_of : List Node → List EdgeSpec → Bool → TopologyView
topology_of nodes edges directed = record { nodes = nodes; links = links_of directed (node_with nodes) edges }
