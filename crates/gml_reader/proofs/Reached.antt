-- The nodes and edges so far, pair by pair.
use Rattle.std.proofs.Common.{◌≡◌, ◌+◌, ℕ, Bool, true, false, cond, List, [], ◌∷◌, ◌++◌, length, refl, sym, ◌∙◌, ap, arith, None, Err, map, filter, append_assoc, length-append}
use Rattle.std.specs.Option.{option_or}
use Rattle.mn_base.specs.declared.refusal.Refusal.{Refusal}
use Rattle.mn_base.specs.declared.refusal.Refusal.TheVariants.{NoMemory, Fault}
use Rattle.topo.specs.declared.parts.Node.{Node}
use Rattle.topo.specs.declared.parts.EdgeSpec.{EdgeSpec}
use Rattle.gml_lex.specs.declared.kinds.Token.{Token}
use Rattle.gml_reader.specs.declared.faults.GmlFault.{GmlFault}
use Rattle.gml_reader.specs.declared.walk.FirstPair.{FirstPair}
use Rattle.gml_reader.specs.Grammar.{Pairs, spelled}
use Rattle.gml_reader.specs.Values.{PairTree, pairs}
use Rattle.gml_reader.specs.Walk.{IsListIn}
use Rattle.gml_reader.specs.Reading.{is_node, is_edge, item_fault, items_fault, node_in, edge_in, nodes_in, edges_in}
use Rattle.gml_reader.specs.ReadGraph.{IsItem, AreItems}
use Rattle.gml_reader.proofs.Finding.{Parted}

-- what was read of a graph, and the pairs that are left
pub record Reached (text : List ℕ) (t : Pairs) (rest : List Token) (nodes : List Node) (edges : List EdgeSpec) : Type 0 where
  pub left : Pairs
  pub list_left : IsListIn (length text) left
  pub rest_is : rest ≡ spelled left
  pub same : items_fault text (length nodes) (length edges) (pairs left) ≡ items_fault text 0 0 (pairs t)
  pub nodes_are : nodes ++ nodes_in text (pairs left) ≡ nodes_in text (pairs t)
  pub edges_are : edges ++ edges_in text (pairs left) ≡ edges_in text (pairs t)

-- ---- what is kept of a list and read
-- of one element as many are kept and read as pass
count_kept : {X Y : Type 0} (keep : X → Bool) (read : X → Y) (x : X) → length (map read (filter keep (x ∷ []))) ≡ cond (keep x) 1 0
count_kept keep read x = by_test (keep x)
  where
    by_test : (b : Bool) → length (map read (cond b (x ∷ []) [])) ≡ cond b 1 0
    by_test true = refl
    by_test false = refl

-- what is kept of a list is what is kept of its first element, and of the others
kept-cons : {X Y : Type 0} (keep : X → Bool) (read : X → Y) (x : X) (xs : List X)
    → map read (filter keep (x ∷ xs)) ≡ map read (filter keep (x ∷ [])) ++ map read (filter keep xs)
kept-cons keep read x xs = by_test (keep x)
  where
    by_test : (b : Bool)
        → map read (cond b (x ∷ filter keep xs) (filter keep xs)) ≡ map read (cond b (x ∷ []) []) ++ map read (filter keep xs)
    by_test true = refl
    by_test false = refl

count_node : (text : List ℕ) (p : PairTree) → length (nodes_in text (p ∷ [])) ≡ cond (is_node text p) 1 0
count_node text p = count_kept (is_node text) (λ q. node_in text q.value) p

count_edge : (text : List ℕ) (p : PairTree) → length (edges_in text (p ∷ [])) ≡ cond (is_edge text p) 1 0
count_edge text p = count_kept (is_edge text) (λ q. edge_in text q.value) p

nodes_in-cons : (text : List ℕ) (p : PairTree) (ps : List PairTree) → nodes_in text (p ∷ ps) ≡ nodes_in text (p ∷ []) ++ nodes_in text ps
nodes_in-cons text p ps = kept-cons (is_node text) (λ q. node_in text q.value) p ps

edges_in-cons : (text : List ℕ) (p : PairTree) (ps : List PairTree) → edges_in text (p ∷ ps) ≡ edges_in text (p ∷ []) ++ edges_in text ps
edges_in-cons text p ps = kept-cons (is_edge text) (λ q. edge_in text q.value) p ps

-- one pair more was read without a fault
abbrev IsRead : List ℕ → List Node → List EdgeSpec → PairTree → List Node → List EdgeSpec → Type 0
IsRead text nodes edges p more_nodes more_edges =
    (item_fault text (length nodes) (length edges) p ≡ None)
    × (more_nodes ≡ nodes ++ nodes_in text (p ∷ []))
    × (more_edges ≡ edges ++ edges_in text (p ∷ []))

module _ {text : List ℕ} {t : Pairs} {p : FirstPair} {rest : List Token} {nodes : List Node} {edges : List EdgeSpec}
    (r : Reached text t rest nodes edges) (q : Parted (length text) r.left p) where
  -- how many nodes and edges there are with the first pair
  abbrev nodes_with : ℕ
  nodes_with = length nodes + cond (is_node text q.head) 1 0

  abbrev edges_with : ℕ
  edges_with = length edges + cond (is_edge text q.head) 1 0

  -- the first fault is that of the first pair, or the first after it
  split_fault : items_fault text 0 0 (pairs t)
      ≡ option_or (item_fault text (length nodes) (length edges) q.head) (items_fault text nodes_with edges_with (pairs q.more))
  split_fault = sym r.same ∙ ap (items_fault text (length nodes) (length edges)) q.pairs_are

  -- with a pair that was read the others are left
  pub Reached-more : (more_nodes : List Node) (more_edges : List EdgeSpec)
      → IsRead text nodes edges q.head more_nodes more_edges → Reached text t p.rest.now more_nodes more_edges
  Reached-more more_nodes more_edges read = record {
    left = q.more;
    list_left = q.list_more;
    rest_is = q.rest_is;
    same = sym (split_fault ∙ ap (λ o. option_or o (items_fault text nodes_with edges_with (pairs q.more))) read.0 ∙ counts);
    nodes_are =
        ap (λ ns. ns ++ nodes_in text (pairs q.more)) read.1
        ∙ append_assoc nodes (nodes_in text (q.head ∷ [])) (nodes_in text (pairs q.more))
        ∙ ap (λ ns. nodes ++ ns) (sym (nodes_in-cons text q.head (pairs q.more)) ∙ ap (nodes_in text) (sym q.pairs_are))
        ∙ r.nodes_are;
    edges_are =
        ap (λ es. es ++ edges_in text (pairs q.more)) read.2
        ∙ append_assoc edges (edges_in text (q.head ∷ [])) (edges_in text (pairs q.more))
        ∙ ap (λ es. edges ++ es) (sym (edges_in-cons text q.head (pairs q.more)) ∙ ap (edges_in text) (sym q.pairs_are))
        ∙ r.edges_are;
  }
    where
      node_count : nodes_with ≡ length more_nodes
      node_count = omega (arith, ap length read.1, length-append nodes (nodes_in text (q.head ∷ [])), count_node text q.head)

      edge_count : edges_with ≡ length more_edges
      edge_count = omega (arith, ap length read.2, length-append edges (edges_in text (q.head ∷ [])), count_edge text q.head)

      counts : items_fault text nodes_with edges_with (pairs q.more)
          ≡ items_fault text (length more_nodes) (length more_edges) (pairs q.more)
      counts =
          ap (λ n. items_fault text n edges_with (pairs q.more)) node_count
          ∙ ap (λ e. items_fault text (length more_nodes) e (pairs q.more)) edge_count

  -- a refusal of the first pair is one of the graph
  pub refused : (more_nodes : List Node) (more_edges : List EdgeSpec) (e : Refusal GmlFault)
      → IsItem text nodes edges q.head more_nodes more_edges (Err e) → AreItems text (pairs t) (Err e)
  refused more_nodes more_edges NoMemory item = tt
  refused more_nodes more_edges (Fault f) item =
      split_fault ∙ ap (λ o. option_or o (items_fault text nodes_with edges_with (pairs q.more))) item
