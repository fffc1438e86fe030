-- What is read of a file, and its first fault.
use Rattle.std.specs.Prelude.{ℕ, ◌+◌, ◌==◌, Bool, ◌&&◌, nat_le, List, [], ◌∷◌, Option, Some, None, is_some, unwrap_or, if◌then◌else◌, find, filter, map, option_map, option_and_then, codes}
use Rattle.std.specs.Option.{option_or}
use Rattle.gml_lex.specs.declared.kinds.TokenKind.{TokenKind}
use Rattle.gml_lex.specs.declared.kinds.TokenKind.TheVariants as kind
use Rattle.gml_lex.specs.declared.kinds.Token.{Token}
use Rattle.topo.specs.declared.keys.Key.{Key}
use Rattle.topo.specs.declared.keys.Key.TheVariants as key
use Rattle.topo.specs.declared.parts.Node.{Node}
use Rattle.topo.specs.declared.parts.EdgeSpec.{EdgeSpec}
use Rattle.topo.specs.Keys.{key_name}
use Rattle.topo.specs.Faults.{topo_fault}
use Rattle.topo.specs.TopologyView.{TopologyView}
use Rattle.topo.specs.Topologies.{topology_of}
use Rattle.gml_reader.specs.declared.faults.Item.{Item}
use Rattle.gml_reader.specs.declared.faults.Item.TheVariants as item
use Rattle.gml_reader.specs.declared.faults.GmlFault.{GmlFault}
use Rattle.gml_reader.specs.declared.faults.GmlFault.TheVariants as fault
use Rattle.gml_reader.specs.Grammar.{Pairs}
use Rattle.gml_reader.specs.Values.{ValueTree, leaf, list, PairTree, pairs, content_of, is_named, value_at, number_in, address_of}

-- ---- keys one by one
-- a key that has to be there, with a number
abbrev pub required_fault : List ℕ → Item → Key → Option ValueTree → Option GmlFault
required_fault text i k None = Some (fault.Missing i k)
required_fault text i k (Some v) = if is_some (number_in text v) then None else Some (fault.Kind i k)

-- a key that may be there, with a number
abbrev pub optional_fault : List ℕ → Item → Key → Option ValueTree → Option GmlFault
optional_fault text i k None = None
optional_fault text i k (Some v) = if is_some (number_in text v) then None else Some (fault.Kind i k)

-- an address is a Text of the right form
abbrev pub address_kind_fault : List ℕ → ℕ → Token → TokenKind → Option GmlFault
address_kind_fault text n token kind.Text =
    if is_some (address_of (content_of text token)) then None else Some (fault.BadAddress n)
address_kind_fault text n token kind.Key = Some (fault.Kind (item.Node n) key.Address)
address_kind_fault text n token kind.Integer = Some (fault.Kind (item.Node n) key.Address)
address_kind_fault text n token kind.Real = Some (fault.Kind (item.Node n) key.Address)
address_kind_fault text n token kind.Left = Some (fault.Kind (item.Node n) key.Address)
address_kind_fault text n token kind.Right = Some (fault.Kind (item.Node n) key.Address)

abbrev pub address_value_fault : List ℕ → ℕ → Option ValueTree → Option GmlFault
address_value_fault text n None = None
address_value_fault text n (Some (leaf token)) = address_kind_fault text n token token.kind
address_value_fault text n (Some (list inner)) = Some (fault.Kind (item.Node n) key.Address)

-- ---- items one by one
unfoldable pub node_item_fault : List ℕ → ℕ → ValueTree → Option GmlFault
node_item_fault text n (leaf token) = Some (fault.Kind (item.Node n) key.Node)
node_item_fault text n (list inner) =
    option_or (required_fault text (item.Node n) key.Id (value_at text (key_name key.Id) (pairs inner)))
    (address_value_fault text n (value_at text (key_name key.Address) (pairs inner)))

unfoldable pub edge_item_fault : List ℕ → ℕ → ValueTree → Option GmlFault
edge_item_fault text e (leaf token) = Some (fault.Kind (item.Edge e) key.Edge)
edge_item_fault text e (list inner) =
    option_or (required_fault text (item.Edge e) key.Source (value_at text (key_name key.Source) (pairs inner))) (
    option_or (required_fault text (item.Edge e) key.Target (value_at text (key_name key.Target) (pairs inner))) (
    option_or (required_fault text (item.Edge e) key.Bandwidth (value_at text (key_name key.Bandwidth) (pairs inner))) (
    option_or (required_fault text (item.Edge e) key.Latency (value_at text (key_name key.Latency) (pairs inner))) (
    option_or (optional_fault text (item.Edge e) key.Queue (value_at text (key_name key.Queue) (pairs inner)))
    (optional_fault text (item.Edge e) key.Loss (value_at text (key_name key.Loss) (pairs inner)))))))

abbrev pub is_node : List ℕ → PairTree → Bool
is_node text p = is_named text (key_name key.Node) p

abbrev pub is_edge : List ℕ → PairTree → Bool
is_edge text p = is_named text (key_name key.Edge) p

-- the fault of a pair of the graph, after so many nodes and edges
abbrev pub item_fault : List ℕ → ℕ → ℕ → PairTree → Option GmlFault
item_fault text n e p =
    if is_node text p then node_item_fault text n p.value else (if is_edge text p then edge_item_fault text e p.value else None)

-- the first fault of the nodes and edges, in the order of the text, after so many nodes and edges
abbrev pub items_fault : List ℕ → ℕ → ℕ → List PairTree → Option GmlFault
items_fault text n e [] = None
items_fault text n e (p ∷ ps) =
    option_or (item_fault text n e p) (items_fault text (n + (if is_node text p then 1 else 0)) (e + (if is_edge text p then 1 else 0)) ps)

-- ---- what is read where there is no fault
abbrev pub number_at : List ℕ → List ℕ → List PairTree → Option ℕ
number_at text name ps = option_and_then (number_in text) (value_at text name ps)

abbrev pub inner_of : ValueTree → Option Pairs
inner_of (leaf token) = None
inner_of (list inner) = Some inner

abbrev pub list_in : ValueTree → List PairTree
list_in (leaf token) = []
list_in (list inner) = pairs inner

abbrev pub address_in : List ℕ → ValueTree → Option ℕ
address_in text (leaf token) = address_of (content_of text token)
address_in text (list inner) = None

unfoldable pub node_in : List ℕ → ValueTree → Node
node_in text v = record {
  id = unwrap_or (number_at text (key_name key.Id) (list_in v)) 0;
  address = option_and_then (address_in text) (value_at text (key_name key.Address) (list_in v));
}

-- a queue of 50 packets and a loss of 0 ppm where none is told
unfoldable pub edge_in : List ℕ → ValueTree → EdgeSpec
edge_in text v = record {
  source = unwrap_or (number_at text (key_name key.Source) (list_in v)) 0;
  target = unwrap_or (number_at text (key_name key.Target) (list_in v)) 0;
  bps = unwrap_or (number_at text (key_name key.Bandwidth) (list_in v)) 0;
  latency_us = unwrap_or (number_at text (key_name key.Latency) (list_in v)) 0;
  queue = unwrap_or (number_at text (key_name key.Queue) (list_in v)) 50;
  ppm = unwrap_or (number_at text (key_name key.Loss) (list_in v)) 0;
}

abbrev pub nodes_in : List ℕ → List PairTree → List Node
nodes_in text ps = map (λ p. node_in text p.value) (filter (is_node text) ps)

abbrev pub edges_in : List ℕ → List PairTree → List EdgeSpec
edges_in text ps = map (λ p. edge_in text p.value) (filter (is_edge text) ps)

-- ---- the graph
-- the first list with the key `graph`
unfoldable pub graph_in : List ℕ → List PairTree → Option Pairs
graph_in text ps = option_and_then (λ p. inner_of p.value) (find (λ p. is_named text (codes "graph") p && is_some (inner_of p.value)) ps)

-- 0 where none is told
abbrev pub directed_in : List ℕ → Option ValueTree → Option ℕ
directed_in text None = Some 0
directed_in text (Some v) = number_in text v

abbrev pub directed_number_fault : Option ℕ → Option GmlFault
directed_number_fault None = Some (fault.Kind item.Graph key.Directed)
directed_number_fault (Some n) = if nat_le n 1 then None else Some (fault.Kind item.Graph key.Directed)

unfoldable pub is_directed : List ℕ → List PairTree → Bool
is_directed text ps = unwrap_or (directed_in text (value_at text (key_name key.Directed) ps)) 0 == 1

unfoldable pub directed_fault : List ℕ → List PairTree → Option GmlFault
directed_fault text ps = directed_number_fault (directed_in text (value_at text (key_name key.Directed) ps))

-- the first fault of a graph
abbrev pub graph_fault : List ℕ → List PairTree → Option GmlFault
graph_fault text ps =
    option_or (directed_fault text ps) (
    option_or (items_fault text 0 0 ps)
    (option_map fault.Topo (topo_fault (nodes_in text ps) (edges_in text ps) (is_directed text ps))))

abbrev pub graph_topology : List ℕ → List PairTree → TopologyView
graph_topology text ps = topology_of (nodes_in text ps) (edges_in text ps) (is_directed text ps)

abbrev pub fault_in : List ℕ → Option Pairs → Option GmlFault
fault_in text None = Some fault.NoGraph
fault_in text (Some graph) = graph_fault text (pairs graph)

-- the first fault of a file, its grammar apart
abbrev pub file_fault : List ℕ → Pairs → Option GmlFault
file_fault text file = fault_in text (graph_in text (pairs file))
