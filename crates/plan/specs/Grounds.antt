-- What the packets of a trace are bound by.
use Rattle.std.specs.Prelude.{◌≡◌, ℕ, ◌<◌, ◌≤◌, List, length, All, AllPairs}
use Rattle.std.specs.Ordering.{nat_cmp}
use Rattle.std.specs.FinMap as map
use Rattle.mn_base.specs.Ranges.{IsLinkType}
use Rattle.topo.specs.declared.parts.Node.{Node}
use Rattle.routes.specs.GraphView.{GraphView}
use Rattle.ip_bind.specs.Books.{node_with_address}
use Rattle.topo.specs.TopologyView.{TopologyView}
use Rattle.pcap_io.specs.Capture.{Capture, trace_base}
use Rattle.distill.specs.Distilled.{DistilledView}
use Rattle.changes.specs.declared.split.Change.{Change}
use Rattle.changes.specs.Changes.{IsChange, PrecedesChange}
use Rattle.ownership.specs.Directory.{DirectoryView}
use Rattle.distill.specs.Latency.{arcs_of_pipes}

-- the nodes of the topology, the distilled pipes as a graph, the entry core of each node, the link type, the time base in ns, and the
-- tick length in ns
pub record Grounds : Type 0 where
  pub nodes : List Node
  pub graph : GraphView
  pub entries : List ℕ
  pub link_type : ℕ
  pub base_ns : ℕ
  pub tick_ns : ℕ

-- a book of these nodes finds what the nodes say
abbrev pub IsBookOf : List Node → map.FinMap nat_cmp ℕ → Type 0
IsBookOf nodes book = (address : ℕ) → map.get book address ≡ node_with_address nodes address

-- the graph and the entry cores are of the topology's nodes
pub record AreGrounds (by : Grounds) : Type 0 where
  pub link_type : IsLinkType by.link_type
  pub tick : 1 ≤ by.tick_ns
  pub nodes : (let graph = by.graph in graph.nodes) ≡ length by.nodes
  pub entries : length by.entries ≡ length by.nodes

-- what the packets of a trace are bound by over a distilled topology
abbrev pub grounds_of : TopologyView → DistilledView → DirectoryView → Capture → ℕ → Grounds
grounds_of t d directory trace tick_ns = record {
  nodes = t.nodes;
  graph = record { nodes = d.nodes; arcs = arcs_of_pipes d.pipes };
  entries = directory.entries;
  link_type = trace.link_type;
  base_ns = trace_base trace;
  tick_ns = tick_ns;
}

-- a directory and changes are of this distilled topology and so many cores
pub record AreFit (d : DistilledView) (cores : ℕ) (directory : DirectoryView) (changes : List Change) : Type 0 where
  pub owners_len : length directory.owners ≡ length d.pipes
  pub owners : All (λ core. core < cores) directory.owners
  pub entries_len : length directory.entries ≡ d.nodes
  pub entries : All (λ core. core < cores) directory.entries
  pub named : All (λ c. c.pipe < length d.pipes) changes
  pub within : All IsChange changes
  pub rise : AllPairs PrecedesChange changes
