-- The text of a fault, in ASCII. Nodes and edges are told by their numbers, keys as GML spells them.
use Rattle.std.specs.Prelude.{ℕ, List, ◌++◌, codes}
use Rattle.std.specs.Fmt.{decimal}
use Rattle.topo.specs.declared.faults.Many.{Many}
use Rattle.topo.specs.declared.faults.Many.TheVariants.{Nodes, EdgeNodes, Links}
use Rattle.topo.specs.declared.faults.TopoFault.{TopoFault}
use Rattle.topo.specs.declared.faults.TopoFault.TheVariants.{TooMany, DuplicateId, DuplicateAddress, UnknownNode, Range}
use Rattle.topo.specs.Keys.{key_name}
use Rattle.gml_reader.specs.declared.faults.Item.{Item}
use Rattle.gml_reader.specs.declared.faults.Item.TheVariants as item
use Rattle.gml_reader.specs.declared.faults.GmlFault.{GmlFault}
use Rattle.gml_reader.specs.declared.faults.GmlFault.TheVariants.{Lex, Grammar, TooDeep, NoGraph, Missing, Kind, BadAddress, Topo}

abbrev pub item_text : Item → List ℕ
item_text item.Graph = codes "graph"
item_text (item.Node node) = codes "node " ++ decimal node
item_text (item.Edge edge) = codes "edge " ++ decimal edge

abbrev pub many_text : Many → List ℕ
many_text Nodes = codes "nodes"
many_text EdgeNodes = codes "edge nodes"
many_text Links = codes "links"

unfoldable pub topo_fault_text : TopoFault → List ℕ
topo_fault_text (TooMany many) = codes "too many " ++ many_text many
topo_fault_text (DuplicateId node) = codes "id of node " ++ decimal node ++ codes " is taken"
topo_fault_text (DuplicateAddress node) = codes "address of node " ++ decimal node ++ codes " is taken"
topo_fault_text (UnknownNode edge) = codes "unknown node in edge " ++ decimal edge
topo_fault_text (Range edge key) = key_name key ++ codes " of edge " ++ decimal edge ++ codes " out of range"

unfoldable pub gml_fault_text : GmlFault → List ℕ
gml_fault_text (Lex place) = codes "bad byte at " ++ decimal place
gml_fault_text (Grammar place) = codes "grammar at " ++ decimal place
gml_fault_text (TooDeep place) = codes "too deep at " ++ decimal place
gml_fault_text NoGraph = codes "no graph"
gml_fault_text (Missing item key) = codes "missing " ++ key_name key ++ codes " in " ++ item_text item
gml_fault_text (Kind item key) = codes "bad " ++ key_name key ++ codes " in " ++ item_text item
gml_fault_text (BadAddress node) = codes "bad address in node " ++ decimal node
gml_fault_text (Topo fault) = topo_fault_text fault
