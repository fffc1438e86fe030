-- Distilled topologies.
use Rattle.std.specs.Prelude.{◌≡◌, ℕ, ◌<◌, ◌≤◌, List, [], ◌∷◌, length, take, drop, All}
use Rattle.std.specs.List.{AllZip}
use Rattle.mn_base.specs.declared.limits.TheConstants.{NODES_MAX, PIPES_MAX}
use Rattle.topo.specs.declared.parts.Link.{Link}
use Rattle.topo.specs.TopologyView.{TopologyView}
use Rattle.topo.specs.Nodes.{edge_nodes_of}
use Rattle.walk_out.specs.Parts.{PartsView}
use Rattle.distill.specs.declared.modes.Mode.{Mode}
use Rattle.distill.specs.declared.pipes.DistilledPipe.{DistilledPipe}
use Rattle.distill.specs.Combination.{StandsFor}
use Rattle.distill.specs.Mesh.{links_at, IsMesh}
use Rattle.distill.specs.Modes.{parts_of}

-- what contracts see of a distilled topology
pub record DistilledView : Type 0 where
  pub nodes : ℕ
  pub edge_nodes : List ℕ
  pub pipes : List DistilledPipe

-- a pipe that stands for one link
abbrev pub IsKept : ℕ → Link → DistilledPipe → Type 0
IsKept tick_ns link pipe = StandsFor tick_ns link.from link.to (link ∷ []) pipe

-- the pipes of parts: the kept links in their order, and after them the mesh
pub record ArePipesOfParts (tick_ns : ℕ) (links : List Link) (parts : PartsView) (pipes : List DistilledPipe) : Type 0 where
  pub kept : AllZip (IsKept tick_ns) (links_at links parts.kept) (take (length parts.kept) pipes)
  pub mesh : IsMesh tick_ns (links_at links parts.middle) parts.border (drop (length parts.kept) pipes)

-- the distilled topology of a topology in a mode
pub record IsDistilled (t : TopologyView) (mode : Mode) (tick_ns : ℕ) (d : DistilledView) : Type 0 where
  pub nodes : d.nodes ≡ length t.nodes
  pub edge_nodes : d.edge_nodes ≡ edge_nodes_of t.nodes
  pub pipes : ArePipesOfParts tick_ns t.links (parts_of t mode) d.pipes

-- a pipe of so many nodes
pub record IsPipeAmong (nodes : ℕ) (pipe : DistilledPipe) : Type 0 where
  pub from : pipe.from < nodes
  pub to : pipe.to < nodes

-- what every distilled topology keeps
pub record KeepsPipeLimits (d : DistilledView) : Type 0 where
  pub few_nodes : d.nodes ≤ NODES_MAX
  pub edge_nodes : All (λ v. v < d.nodes) d.edge_nodes
  pub pipes : All (IsPipeAmong d.nodes) d.pipes
  pub few_pipes : length d.pipes ≤ PIPES_MAX
