-- Nodes and edges without a fault make a topology.
use Rattle.std.proofs.Common.{◌≡◌, ◌≢◌, ◌<◌, ◌≤◌, ◌+◌, ◌==◌, ℕ, suc, Bool, true, false, cond, nat_lt, List, [], ◌∷◌, length, take, get_or, refl, sym, ◌∙◌, ap, subst, arith, Option, Some, None, if◌then◌else◌, length-take}
use mathlib.Core.Path.{fun_ext}
use Rattle.std.proofs.lemmas.Bool.{eq-eqb, ltb-false, false≢true}
use Rattle.std.proofs.lemmas.List.{get_or-take}
use Rattle.std.proofs.lemmas.List.Elements.{All-nil, All-cons, All-append}
use Rattle.std.proofs.lemmas.List.Folds.{list_any_at}
use Rattle.std.proofs.lemmas.List.Quantifiers.{position-Some}
use Rattle.std.specs.List.{All, AllPairs, list_any, count_by, flat_map}
use Rattle.std.specs.Option.{option_or, option_map_or}
use Rattle.mn_base.specs.declared.limits.TheConstants.{NODES_MAX, EDGE_NODES_MAX, LINKS_MAX}
use Rattle.topo.specs.declared.parts.Node.{Node}
use Rattle.topo.specs.declared.parts.EdgeSpec.{EdgeSpec}
use Rattle.topo.specs.declared.parts.Link.{Link}
use Rattle.topo.specs.declared.faults.TopoFault.{TopoFault}
use Rattle.topo.specs.Nodes.{has_id, has_address, is_edge_node, node_with, no_node}
use Rattle.topo.specs.Links.{link, links_between, links_of_edge, links_of}
use Rattle.topo.specs.Faults.{first_fault, node_count_fault, id_fault, address_fault, edge_fault, link_count_fault, topo_fault}
use Rattle.topo.specs.Topologies.{IsLink, DifferInAddress, IsTopology, topology_of}
use Rattle.topo.proofs.Firsts.{first_fault-None, none_of_or}
use Rattle.topo.proofs.InRange.{IsFaultless, faultless_at}

-- ---- counts
not_above : {F : Type 0} (limit n : ℕ) (f : F) (rest : Option F) → (if nat_lt limit n then Some f else rest) ≡ None
    → (n ≤ limit) × (rest ≡ None)
not_above limit n f rest e = by_test (nat_lt limit n) refl e
  where
    by_test : (b : Bool) → nat_lt limit n ≡ b → cond b (Some f) rest ≡ None → (n ≤ limit) × (rest ≡ None)
    by_test true t e = cc
    by_test false t e = (ltb-false limit n t, e)

few : (nodes : List Node) → node_count_fault nodes ≡ None → (length nodes ≤ NODES_MAX) × (count_by is_edge_node nodes ≤ EDGE_NODES_MAX)
few nodes e =
    let first = not_above NODES_MAX (length nodes) _ _ e in
    (first.0, (not_above EDGE_NODES_MAX (count_by is_edge_node nodes) _ None first.1).0)

-- ---- ids and addresses
none_of_cond : {F : Type 0} (b : Bool) (f : F) → cond b (Some f) None ≡ None → b ≡ false
none_of_cond true f e = cc
none_of_cond false f e = refl

-- a test that an earlier element passes
passes_earlier : (p : Node → Bool) (nodes : List Node) (i j : ℕ) (d : Node) → i < j → j < length nodes → p (get_or nodes i d) ≡ true
    → list_any p (take j nodes) ≡ true
passes_earlier p nodes i j d before within passes =
    list_any_at p (take j nodes) i d (omega (arith, length-take j nodes)) (ap p (get_or-take j nodes i d before) ∙ passes)

distinct_ids : (nodes : List Node) → first_fault (id_fault nodes) 0 nodes ≡ None → AllPairs (λ a b. a.id ≢ b.id) nodes
distinct_ids nodes none i j d before within same =
    let b = get_or nodes j d in
    let here : id_fault nodes (0 + j) b ≡ None = first_fault-None (id_fault nodes) 0 nodes j d none within in
    let at_j : 0 + j ≡ j = omega arith in
    let new : list_any (has_id b.id) (take j nodes) ≡ false = none_of_cond _ _ (ap (λ n. id_fault nodes n b) (sym at_j) ∙ here) in
    false≢true (sym new ∙ passes_earlier (has_id b.id) nodes i j d before within (eq-eqb _ _ same))

address_fault_at : (nodes : List Node) (n : ℕ) (b : Node) (x : ℕ) → b.address ≡ Some x → address_fault nodes n b ≡ None
    → list_any (has_address x) (take n nodes) ≡ false
address_fault_at nodes n b x has none = none_of_cond _ _ (rw has at none)

distinct_addresses : (nodes : List Node) → first_fault (address_fault nodes) 0 nodes ≡ None → AllPairs DifferInAddress nodes
distinct_addresses nodes none i j d before within x in_a in_b =
    let a = get_or nodes i d in
    let b = get_or nodes j d in
    let here : address_fault nodes (0 + j) b ≡ None = first_fault-None (address_fault nodes) 0 nodes j d none within in
    let at_j : 0 + j ≡ j = omega arith in
    let new : list_any (has_address x) (take j nodes) ≡ false =
    address_fault_at nodes j b x in_b (ap (λ n. address_fault nodes n b) (sym at_j) ∙ here) in
    let has : has_address x a ≡ true = ap (λ o. option_map_or (λ y. y == x) o false) in_a ∙ eq-eqb x x refl in
    false≢true (sym new ∙ passes_earlier (has_address x) nodes i j d before within has)

-- ---- links
node_in_range : (nodes : List Node) (id a : ℕ) → node_with nodes id ≡ Some a → a < length nodes
node_in_range nodes id a e = (position-Some (has_id id) nodes a no_node e).0

is_link : (count : ℕ) (find : ℕ → Option ℕ) (edge : EdgeSpec) (a b : ℕ) → IsFaultless find edge → a < count → b < count
    → IsLink count (link edge a b)
is_link count find edge a b ok leaves enters = record {
  leaves = leaves;
  enters = enters;
  values = ok.values;
}

links_between_hold : (count : ℕ) (directed : Bool) (find : ℕ → Option ℕ) (edge : EdgeSpec) (o p : Option ℕ) → IsFaultless find edge
    → ((a : ℕ) → o ≡ Some a → a < count) → ((b : ℕ) → p ≡ Some b → b < count) → All (IsLink count) (links_between directed edge o p)
links_between_hold count true find edge (Some a) (Some b) ok from to =
    All-cons (IsLink count) _ [] (is_link count find edge a b ok (from a refl) (to b refl)) (All-nil (IsLink count))
links_between_hold count false find edge (Some a) (Some b) ok from to =
    All-cons (IsLink count) (link edge a b) (link edge b a ∷ []) (is_link count find edge a b ok (from a refl) (to b refl))
    (All-cons (IsLink count) (link edge b a) [] (is_link count find edge b a ok (to b refl) (from a refl)) (All-nil (IsLink count)))
links_between_hold count directed find edge (Some a) None ok from to = All-nil (IsLink count)
links_between_hold count directed find edge None p ok from to = All-nil (IsLink count)

links_of_edge_hold : (nodes : List Node) (directed : Bool) (edge : EdgeSpec) → IsFaultless (node_with nodes) edge
    → All (IsLink (length nodes)) (links_of_edge directed (node_with nodes) edge)
links_of_edge_hold nodes directed edge ok = by_test (edge.source == edge.target)
  where
    by_test : (b : Bool)
        → All (IsLink (length nodes))
        (cond b [] (links_between directed edge (node_with nodes edge.source) (node_with nodes edge.target)))
    by_test true = All-nil (IsLink (length nodes))
    by_test false =
        links_between_hold (length nodes) directed (node_with nodes) edge _ _ ok (node_in_range nodes edge.source)
        (node_in_range nodes edge.target)

all_flat_map : {X Y : Type 0} (P : Y → Type 0) (f : X → List Y) (xs : List X)
    → ((i : ℕ) (d : X) → i < length xs → All P (f (get_or xs i d))) → All P (flat_map f xs)
all_flat_map P f [] each = All-nil P
all_flat_map P f (x ∷ xs) each =
    All-append P (f x) (flat_map f xs) (each 0 x (omega arith)) (all_flat_map P f xs (λ i d within. each (suc i) d (omega arith)))

links_hold : (nodes : List Node) (edges : List EdgeSpec) (directed : Bool) → first_fault (edge_fault (node_with nodes)) 0 edges ≡ None
    → All (IsLink (length nodes)) (links_of directed (node_with nodes) edges)
links_hold nodes edges directed none =
    all_flat_map (IsLink (length nodes)) (links_of_edge directed (node_with nodes)) edges
    (λ i d within. links_of_edge_hold nodes directed (get_or edges i d) (faultless_at (node_with nodes) edges i d none within))

-- ---- the whole
-- the parts of the first fault, each none
pub record HasNoFault (nodes : List Node) (specs : List EdgeSpec) (directed : Bool) : Type 0 where
  pub counts : node_count_fault nodes ≡ None
  pub ids : first_fault (id_fault nodes) 0 nodes ≡ None
  pub addresses : first_fault (address_fault nodes) 0 nodes ≡ None
  pub edges : first_fault (edge_fault (node_with nodes)) 0 specs ≡ None
  pub links : link_count_fault directed (node_with nodes) specs ≡ None

pub has_no_fault : (nodes : List Node) (specs : List EdgeSpec) (directed : Bool) → topo_fault nodes specs directed ≡ None
    → HasNoFault nodes specs directed
has_no_fault nodes specs directed none =
    let one = none_of_or (node_count_fault nodes) _ none in
    let two = none_of_or (first_fault (id_fault nodes) 0 nodes) _ one.1 in
    let three = none_of_or (first_fault (address_fault nodes) 0 nodes) _ two.1 in
    let four = none_of_or (first_fault (edge_fault (node_with nodes)) 0 specs) _ three.1 in
    record { counts = one.0; ids = two.0; addresses = three.0; edges = four.0; links = four.1 }

pub topology_is_valid : (nodes : List Node) (specs : List EdgeSpec) (directed : Bool) → topo_fault nodes specs directed ≡ None
    → IsTopology (topology_of nodes specs directed)
topology_is_valid nodes specs directed no_fault =
    let none = has_no_fault nodes specs directed no_fault in
    record {
      few_nodes = (few nodes none.counts).0;
      few_edge_nodes = (few nodes none.counts).1;
      few_links = (not_above LINKS_MAX (length (links_of directed (node_with nodes) specs)) _ None none.links).0;
      ids = distinct_ids nodes none.ids;
      addresses = distinct_addresses nodes none.addresses;
      links_hold = links_hold nodes specs directed none.edges;
    }

pub valid_topology : (nodes : List Node) (specs : List EdgeSpec) (directed : Bool) (made : List Link)
    → topo_fault nodes specs directed ≡ None → made ≡ links_of directed (node_with nodes) specs
    → IsTopology (record { nodes = nodes; links = made })
valid_topology nodes specs directed made no_fault same =
    subst (λ ls. IsTopology (record { nodes = nodes; links = ls })) (sym same) (topology_is_valid nodes specs directed no_fault)

-- ---- by the numbers that were looked up
-- the first fault, where `find` gives the numbers of the nodes by their ids
topo_fault_by : (ℕ → Option ℕ) → List Node → List EdgeSpec → Bool → Option TopoFault
topo_fault_by find nodes specs directed =
    option_or (node_count_fault nodes) (
    option_or (first_fault (id_fault nodes) 0 nodes) (
    option_or (first_fault (address_fault nodes) 0 nodes) (
    option_or (first_fault (edge_fault find) 0 specs) (
    link_count_fault directed find specs))))

topo_fault_is : (find : ℕ → Option ℕ) (nodes : List Node) (specs : List EdgeSpec) (directed : Bool)
    → ((id : ℕ) → find id ≡ node_with nodes id) → topo_fault nodes specs directed ≡ topo_fault_by find nodes specs directed
unfolding topo_fault_by
topo_fault_is find nodes specs directed same = ap (λ g. topo_fault_by g nodes specs directed) (sym (fun_ext same))

-- the nodes have no fault, and `find` gives their numbers by their ids
pub record AreFaultlessNodes (find : ℕ → Option ℕ) (nodes : List Node) : Type 0 where
  pub counts : node_count_fault nodes ≡ None
  pub ids : first_fault (id_fault nodes) 0 nodes ≡ None
  pub addresses : first_fault (address_fault nodes) 0 nodes ≡ None
  pub numbers : (id : ℕ) → find id ≡ node_with nodes id

-- then the first fault of the edges is the first
pub edges_are_first : (find : ℕ → Option ℕ) (nodes : List Node) (specs : List EdgeSpec) (directed : Bool) (f : TopoFault)
    → AreFaultlessNodes find nodes → first_fault (edge_fault find) 0 specs ≡ Some f → topo_fault nodes specs directed ≡ Some f
unfolding topo_fault_by
edges_are_first find nodes specs directed f are here =
    topo_fault_is find nodes specs directed are.numbers ∙ rw (are.counts, are.ids, are.addresses, here) refl

-- and without one what is left is the number of links
pub links_are_last : (find : ℕ → Option ℕ) (nodes : List Node) (specs : List EdgeSpec) (directed : Bool) (o : Option TopoFault)
    → AreFaultlessNodes find nodes → first_fault (edge_fault find) 0 specs ≡ None → link_count_fault directed find specs ≡ o
    → topo_fault nodes specs directed ≡ o
unfolding topo_fault_by
links_are_last find nodes specs directed o are none here =
    topo_fault_is find nodes specs directed are.numbers ∙ rw (are.counts, are.ids, are.addresses, none) here
