-- What holds of the parts of every mode.
use Rattle.std.specs.Prelude.{◌≡◌, ℕ, ◌<◌, ◌≤◌, List, length, All}
use Rattle.mn_base.specs.declared.limits.TheConstants.{NODES_MAX, LINKS_MAX}
use Rattle.topo.specs.declared.parts.Link.{Link}
use Rattle.topo.specs.Topologies.{IsLink}
use Rattle.topo.specs.TopologyView.{TopologyView}
use Rattle.walk_out.specs.Parts.{PartsView}
use Rattle.distill.specs.Mesh.{links_at}
use Rattle.distill.specs.PipeCount.{AreDistinct}

-- numbers of links and nodes that the topology has, no node twice on the border
pub record AreSound (t : TopologyView) (parts : PartsView) : Type 0 where
  pub kept : All (λ e. e < length t.links) parts.kept
  pub few_kept : length parts.kept ≤ length t.links
  pub middle : All (λ e. e < length t.links) parts.middle
  pub few_middle : length parts.middle ≤ length t.links
  pub border : All (λ v. v < length t.nodes) parts.border
  pub distinct : AreDistinct parts.border
  pub few_border : length parts.border ≤ NODES_MAX

-- links that a topology has at these numbers
pub record AreChosen (t : TopologyView) (numbers : List ℕ) (chosen : List Link) : Type 0 where
  pub are : chosen ≡ links_at t.links numbers
  pub hold : All (IsLink (length t.nodes)) chosen
  pub few : length chosen ≤ LINKS_MAX
