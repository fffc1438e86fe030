-- There is no first fault exactly where nodes and edges make a topology.
use Rattle.std.proofs.Common.{◌≡◌, ◌≢◌, ◌<◌, ◌≤◌, ◌+◌, ◌==◌, ℕ, suc, Bool, true, false, not, ◌&&◌, nat_lt, List, [], ◌∷◌, length, take, get_or, refl, sym, ◌∙◌, ap, subst, arith, Option, Some, None, is_some, if◌then◌else◌, option_and_then, length-take}
use Rattle.std.proofs.lemmas.Bool.{eq-eqb, le-ltb, false≢true}
use Rattle.std.proofs.lemmas.Bool.Decides.{nat_tests}
use Rattle.std.proofs.lemmas.List.{get_or-take, get_or_default}
use Rattle.std.proofs.lemmas.List.Elements.{All-get_or, All-from_get_or}
use Rattle.std.proofs.lemmas.List.Folds.{Any-from_list_any, list_any-from_Any}
use Rattle.std.specs.List.{AllPairs, list_any, count_by}
use Rattle.std.specs.Option.{option_or}
use Rattle.mn_base.specs.Ranges.{is_bandwidth, is_latency, is_queue_limit, is_loss}
use Rattle.mn_base.specs.declared.limits.TheConstants.{NODES_MAX, EDGE_NODES_MAX, LINKS_MAX}
use Rattle.mn_base.proofs.RangeTests.{bandwidth_passes, latency_passes, queue_limit_passes, loss_passes}
use Rattle.topo.specs.declared.parts.Node.{Node}
use Rattle.topo.specs.declared.parts.EdgeSpec.{EdgeSpec}
use Rattle.topo.specs.declared.faults.TopoFault.TheVariants.{DuplicateAddress}
use Rattle.topo.specs.Nodes.{has_id, has_address, is_edge_node, node_with}
use Rattle.topo.specs.Links.{links_of}
use Rattle.topo.specs.Faults.{first_fault, node_count_fault, id_fault, address_fault, edge_fault, topo_fault}
use Rattle.topo.specs.Topologies.{DifferInAddress}
use Rattle.topo.specs.Laws.{IsIdAmong, IsEdgeAmong, MakeTopology, FaultlessMakeTopology}
use Rattle.topo.proofs.Firsts.{is_some-position}
use Rattle.topo.proofs.InRange.{IsFaultless, faultless_at}
use Rattle.topo.proofs.SeenIds.{address_is}
use Rattle.topo.proofs.Valid.{has_no_fault, topology_is_valid}

-- ---- ids
same_number : (a b : ℕ) → (a == b) ≡ true → a ≡ b
same_number a b e = grind (arith, nat_tests, e)

id_among : (nodes : List Node) (id : ℕ) → is_some (node_with nodes id) ≡ true → IsIdAmong nodes id
id_among nodes id e =
    let found = Any-from_list_any (has_id id) nodes (sym (is_some-position (has_id id) nodes) ∙ e) in
    (found.0, found.1, found.2, found.3, same_number _ id found.4)

find_among : (nodes : List Node) (id : ℕ) → IsIdAmong nodes id → is_some (node_with nodes id) ≡ true
find_among nodes id (k, node, within, is, same) =
    is_some-position (has_id id) nodes ∙ list_any-from_Any (has_id id) nodes (k, node, within, is, eq-eqb _ id same)

-- ---- no fault at a place
-- a test that no earlier element passes
none_before : (p : Node → Bool) (nodes : List Node) (i : ℕ) (d : Node) → i < length nodes
    → ((k : ℕ) → k < i → p (get_or nodes k d) ≡ true → ⊥) → (b : Bool) → list_any p (take i nodes) ≡ b → b ≡ false
none_before p nodes i d within none false e = refl
none_before p nodes i d within none true e =
    let found = Any-from_list_any p (take i nodes) e in
    let before : found.0 < i = omega (arith, length-take i nodes, found.2) in
    let is : get_or nodes found.0 d ≡ found.1 =
    get_or_default nodes found.0 d found.1 (omega arith) ∙ sym (get_or-take i nodes found.0 found.1 before) ∙ found.3 in
    absurd (none found.0 before (ap p is ∙ found.4))

new_id : (nodes : List Node) (i : ℕ) (d : Node) → AllPairs (λ a b. a.id ≢ b.id) nodes → i < length nodes
    → id_fault nodes i (get_or nodes i d) ≡ None
new_id nodes i d differ within =
    let node = get_or nodes i d in
    rw (none_before (has_id node.id) nodes i d within (λ k before same. differ k i d before within (same_number _ _ same)) _ refl) refl

new_address : (nodes : List Node) (i : ℕ) (d : Node) → AllPairs DifferInAddress nodes → i < length nodes
    → address_fault nodes i (get_or nodes i d) ≡ None
new_address nodes i d differ within = let node = get_or nodes i d in by_address node.address refl
  where
    by_address : (o : Option ℕ) → (let node = get_or nodes i d in node.address ≡ o)
        → option_and_then (λ a. if list_any (has_address a) (take i nodes) then Some (DuplicateAddress i) else None) o ≡ None
    by_address None has = refl
    by_address (Some a) has =
        rw (none_before (has_address a) nodes i d within (λ k before same. differ k i d before within a (address_is _ a same) has) _ refl)
        refl

skip : {F : Type 0} (b : Bool) (f : F) (rest : Option F) → b ≡ true → rest ≡ None → (if not b then Some f else rest) ≡ None
skip true f rest t e = e
skip false f rest t e = absurd (false≢true t)

both_true : (a b : Bool) → a ≡ true → b ≡ true → (a && b) ≡ true
both_true true b ta tb = tb
both_true false b ta tb = ta

fine_edge : (nodes : List Node) (e : ℕ) (edge : EdgeSpec) → IsEdgeAmong nodes edge → edge_fault (node_with nodes) e edge ≡ None
fine_edge nodes e edge is =
    skip (is_some (node_with nodes edge.source) && is_some (node_with nodes edge.target)) _ _
    (both_true _ _ (find_among nodes edge.source is.source) (find_among nodes edge.target is.target)) (
    skip (is_bandwidth edge.bps) _ _ (bandwidth_passes edge.bps is.values.bandwidth) (
    skip (is_latency edge.latency_us) _ _ (latency_passes edge.latency_us is.values.latency) (
    skip (is_queue_limit edge.queue) _ _ (queue_limit_passes edge.queue is.values.queue_limit) (
    skip (is_loss edge.ppm) _ None (loss_passes edge.ppm is.values.loss) refl))))

-- ---- no first fault
neither : {F : Type 0} (a b : Option F) → a ≡ None → b ≡ None → option_or a b ≡ None
neither None b none_a none_b = none_b
neither (Some f) b none_a none_b = none_a

no_first : {X F : Type 0} (fault : ℕ → X → Option F) (n : ℕ) (xs : List X)
    → ((i : ℕ) (d : X) → i < length xs → fault (n + i) (get_or xs i d) ≡ None) → first_fault fault n xs ≡ None
no_first fault n [] each = refl
no_first fault n (x ∷ xs) each =
    let first : n + 0 ≡ n = omega arith in
    neither (fault n x) _ (subst (λ m. fault m x ≡ None) first (each 0 x (omega arith)))
    (no_first fault (n + 1) xs
    (λ i d within. let later : n + suc i ≡ (n + 1) + i = omega arith in subst (λ m. fault m (get_or xs i d) ≡ None) later
    (each (suc i) d (omega arith))))

from_0 : {X F : Type 0} (fault : ℕ → X → Option F) (xs : List X) → ((i : ℕ) (d : X) → i < length xs → fault i (get_or xs i d) ≡ None)
    → first_fault fault 0 xs ≡ None
from_0 fault xs each =
    no_first fault 0 xs
    (λ i d within. let same : i ≡ 0 + i = omega arith in subst (λ m. fault m (get_or xs i d) ≡ None) same (each i d within))

few_enough : {F : Type 0} (limit n : ℕ) (f : F) (rest : Option F) → n ≤ limit → rest ≡ None
    → (if nat_lt limit n then Some f else rest) ≡ None
few_enough limit n f rest few none = rw (le-ltb limit n few) none

faultless : (nodes : List Node) (edges : List EdgeSpec) (directed : Bool) → MakeTopology nodes edges directed
    → topo_fault nodes edges directed ≡ None
faultless nodes edges directed make =
    neither (node_count_fault nodes) _
    (few_enough NODES_MAX (length nodes) _ _ make.few_nodes
    (few_enough EDGE_NODES_MAX (count_by is_edge_node nodes) _ None make.few_edge_nodes refl))
    (
    neither (first_fault (id_fault nodes) 0 nodes) _ (from_0 (id_fault nodes) nodes (λ i d within. new_id nodes i d make.ids within)) (
    neither (first_fault (address_fault nodes) 0 nodes) _
    (from_0 (address_fault nodes) nodes (λ i d within. new_address nodes i d make.addresses within)) (
    neither (first_fault (edge_fault (node_with nodes)) 0 edges) _
    (from_0 (edge_fault (node_with nodes)) edges
    (λ i d within. fine_edge nodes i _ (All-get_or (IsEdgeAmong nodes) edges i d within make.edges_hold)))
    (
    few_enough LINKS_MAX (length (links_of directed (node_with nodes) edges)) _ None make.few_links refl))))

-- ---- no fault makes a topology
no_edge : EdgeSpec
no_edge = record { source = 0; target = 0; bps = 0; latency_us = 0; queue = 0; ppm = 0 }

edge_among : (nodes : List Node) (edge : EdgeSpec) → IsFaultless (node_with nodes) edge → IsEdgeAmong nodes edge
edge_among nodes edge ok = record {
  source = id_among nodes edge.source ok.source;
  target = id_among nodes edge.target ok.target;
  values = ok.values;
}

make_topology : (nodes : List Node) (edges : List EdgeSpec) (directed : Bool) → topo_fault nodes edges directed ≡ None
    → MakeTopology nodes edges directed
make_topology nodes edges directed none =
    let valid = topology_is_valid nodes edges directed none in
    let parts = has_no_fault nodes edges directed none in
    record {
      few_nodes = valid.few_nodes;
      few_edge_nodes = valid.few_edge_nodes;
      ids = valid.ids;
      addresses = valid.addresses;
      edges_hold =
          All-from_get_or (IsEdgeAmong nodes) edges no_edge
          (λ i within. edge_among nodes (get_or edges i no_edge) (faultless_at (node_with nodes) edges i no_edge parts.edges within));
      few_links = valid.few_links;
    }

pub faultless_make_topology : FaultlessMakeTopology
faultless_make_topology nodes edges directed = (make_topology nodes edges directed, faultless nodes edges directed)
