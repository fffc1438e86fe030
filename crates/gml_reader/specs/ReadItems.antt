-- What the code answers of a node or an edge, case by case.
use Rattle.std.specs.Prelude.{◌≡◌, ℕ, List, Some, None, Result, Ok, Err}
use Rattle.topo.specs.declared.parts.Node.{Node}
use Rattle.topo.specs.declared.parts.EdgeSpec.{EdgeSpec}
use Rattle.gml_reader.specs.declared.faults.GmlFault.{GmlFault}
use Rattle.gml_reader.specs.Values.{ValueTree}
use Rattle.gml_reader.specs.Reading.{node_item_fault, edge_item_fault, node_in, edge_in}

abbrev pub IsNode : List ℕ → ℕ → ValueTree → Result Node GmlFault → Type 0
IsNode text n v (Ok node) = (node_item_fault text n v ≡ None) × (node ≡ node_in text v)
IsNode text n v (Err f) = node_item_fault text n v ≡ Some f

abbrev pub IsEdge : List ℕ → ℕ → ValueTree → Result EdgeSpec GmlFault → Type 0
IsEdge text e v (Ok edge) = (edge_item_fault text e v ≡ None) × (edge ≡ edge_in text v)
IsEdge text e v (Err f) = edge_item_fault text e v ≡ Some f
