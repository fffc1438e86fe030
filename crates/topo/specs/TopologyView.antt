-- What contracts see of a topology.
use Rattle.std.specs.Prelude.{List}
use Rattle.topo.specs.declared.parts.Node.{Node}
use Rattle.topo.specs.declared.parts.Link.{Link}

-- its nodes and links, each in the order of their numbers
pub record TopologyView : Type 0 where
  pub nodes : List Node
  pub links : List Link
