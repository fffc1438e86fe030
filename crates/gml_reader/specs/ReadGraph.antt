-- What the code answers of a graph, case by case.
use Rattle.std.specs.Prelude.{◌≡◌, ℕ, ◌≤◌, Bool, List, [], ◌∷◌, ◌++◌, length, Option, Some, None, Result, Ok, Err}
use Rattle.std.specs.Borrow.{Bor}
use Rattle.mn_base.specs.declared.refusal.Refusal.{Refusal}
use Rattle.mn_base.specs.declared.refusal.Refusal.TheVariants as refusal
use Rattle.topo.specs.declared.parts.Node.{Node}
use Rattle.topo.specs.declared.parts.EdgeSpec.{EdgeSpec}
use Rattle.topo.specs.TopologyView.{TopologyView}
use Rattle.gml_lex.specs.declared.kinds.Token.{Token}
use Rattle.gml_reader.specs.declared.graph.Items.{Items}
use Rattle.gml_reader.specs.declared.faults.GmlFault.{GmlFault}
use Rattle.gml_reader.specs.declared.walk.FirstPair.{FirstPair}
use Rattle.gml_reader.specs.Grammar.{Pairs, spelled}
use Rattle.gml_reader.specs.Values.{PairTree}
use Rattle.gml_reader.specs.Walk.{IsListIn, IsValueOf}
use Rattle.gml_reader.specs.Reading.{item_fault, items_fault, nodes_in, edges_in, directed_fault, is_directed, graph_fault, graph_topology}

abbrev pub IsDirected : List ℕ → List PairTree → Result Bool GmlFault → Type 0
IsDirected text ps (Ok b) = (directed_fault text ps ≡ None) × (b ≡ is_directed text ps)
IsDirected text ps (Err f) = directed_fault text ps ≡ Some f

abbrev pub IsGraph : ℕ → Option Pairs → Option (Bor (List Token)) → Type 0
IsGraph len None None = Unit {0}
IsGraph len None (Some s) = ⊥
IsGraph len (Some g) None = ⊥
IsGraph len (Some g) (Some s) = IsListIn len g × (s.now ≡ spelled g)

-- the code's pair is that of the tree
abbrev pub IsPair : ℕ → PairTree → FirstPair → Type 0
IsPair len p first = (first.key ≡ p.key) × (p.key.end ≤ len) × IsValueOf len p.value first.value

-- one pair more was read of a graph, after these nodes and edges
abbrev pub IsItem : List ℕ → List Node → List EdgeSpec → PairTree → List Node → List EdgeSpec → Result (Unit {0}) (Refusal GmlFault)
    → Type 0
IsItem text nodes edges p more_nodes more_edges (Ok u) =
    (item_fault text (length nodes) (length edges) p ≡ None) × (more_nodes ≡ nodes ++ nodes_in text (p ∷ [])) ×
    (more_edges ≡ edges ++ edges_in text (p ∷ []))
IsItem text nodes edges p more_nodes more_edges (Err refusal.NoMemory) = Unit {0}
IsItem text nodes edges p more_nodes more_edges (Err (refusal.Fault f)) = item_fault text (length nodes) (length edges) p ≡ Some f

abbrev pub IsItemsOf : List ℕ → List PairTree → List Node → List EdgeSpec → Type 0
IsItemsOf text ps nodes edges = (items_fault text 0 0 ps ≡ None) × (nodes ≡ nodes_in text ps) × (edges ≡ edges_in text ps)

-- all nodes and edges of a graph
abbrev pub AreItems : List ℕ → List PairTree → Result Items (Refusal GmlFault) → Type 0
AreItems text ps (Ok i) = IsItemsOf text ps i.nodes.items i.edges.items
AreItems text ps (Err refusal.NoMemory) = Unit {0}
AreItems text ps (Err (refusal.Fault f)) = items_fault text 0 0 ps ≡ Some f

-- the topology of a graph
abbrev pub IsGraphRead : List ℕ → List PairTree → Result TopologyView (Refusal GmlFault) → Type 0
IsGraphRead text ps (Ok t) = (graph_fault text ps ≡ None) × (t ≡ graph_topology text ps)
IsGraphRead text ps (Err refusal.NoMemory) = Unit {0}
IsGraphRead text ps (Err (refusal.Fault f)) = graph_fault text ps ≡ Some f
