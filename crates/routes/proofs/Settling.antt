-- The nearest node is settled: it is taken from the queue and marked, and the arcs into it are looked at next.
use Rattle.std.proofs.Common.{◌≡◌, ◌≢◌, ◌↔◌, ℕ, ◌+◌, ◌-◌, ◌<◌, Bool, true, List, length, set, Option, Some, Vec, Global, refl, sym, ap, subst, ◌∙◌, arith, length-set}
use Rattle.mn_base.specs.Among.{Among}
use Rattle.routes.specs.declared.label.Label.{Label}
use Rattle.routes.specs.declared.search.Search.{Search}
use Rattle.routes.specs.GraphView.{GraphView}
use Rattle.routes.specs.NodeQueue.{Entry, IsUpTo}
use Rattle.routes.specs.Table.{label_of, IsRoutes}
use Rattle.routes.specs.Search.{settled_of, settled_count, entry_of, IsEntry, IsNodeQueue, IsInto, IsSearch}
use Rattle.routes.specs.Searching.{IsSearching, IsAtRest, Settles, IsAtEnd}
use Rattle.routes.proofs.Lists.{has_place, put_settled, count_more, count_room}
use Rattle.routes.proofs.SearchSteps.{IsPut, one_label, settled_next, finished}
use Rattle.routes.proofs.QueueSteps.{queue_settled}

-- the entry k is taken from the queue of s, of which rest is left
pub record Pops (s : Search) (k : Entry) (rest : List Entry) : Type 0 where
  pub queue : IsNodeQueue (label_of s.labels.items) (settled_of s.settled.items) s.queue
  pub places : length s.settled.items ≡ length s.labels.items
  pub there : Among k s.queue
  pub rest_is : (j : Entry) → Among j rest ↔ (Among j s.queue × (j ≢ k))
  pub least : (j : Entry) → Among j s.queue → IsUpTo k j

-- the same by the steps of the code
pub pops : (s : Search) (k : Entry) (rest : List Entry) → IsNodeQueue (label_of s.labels.items) (settled_of s.settled.items) s.queue
    → length s.settled.items ≡ length s.labels.items → Among k s.queue
    → ((j : Entry) → Among j rest ↔ (Among j s.queue × (j ≢ k))) → ((j : Entry) → Among j s.queue → IsUpTo k j) → Pops s k rest
pops s k rest queue places there rest_is least =
    record { queue = queue; places = places; there = there; rest_is = rest_is; least = least }

-- it stands for a node that has a label and isn't settled
pub popped : {s : Search} {k : Entry} {rest : List Entry} → Pops s k rest
    → IsEntry (label_of s.labels.items) (settled_of s.settled.items) k
popped {s} {k} {rest} pops = pops.queue.stands k pops.there

-- so that node has a place in both lists
pub label_place : {s : Search} {k : Entry} {rest : List Entry} → Pops s k rest → k.2 < length s.labels.items
label_place {s} {k} {rest} pops = let own = popped pops in has_place s.labels.items k.2 own.own own.has

-- the two lists are as long
pub settled_place : {s : Search} {k : Entry} {rest : List Entry} → Pops s k rest → k.2 < length s.settled.items
settled_place {s} {k} {rest} pops = let low = label_place pops in let same = pops.places in omega arith

-- its label is no farther than that of each other node that isn't settled, since its entry is least
pub settles : {s : Search} {k : Entry} {rest : List Entry} (l : Label) → Pops s k rest → label_of s.labels.items k.2 ≡ Some l
    → (settled' : Vec Bool Global) → settled'.items ≡ set s.settled.items k.2 true
    → Settles s (record s { settled = settled'; queue = rest }) k.2 l
settles {s} {k} {rest} l pops has settled' is =
    record {
      destination = refl;
      labels = refl;
      settled = is;
      queue =
          queue_settled
          rest
          pops.queue
          pops.there
          (subst
          (λ (bs : List Bool). IsPut (settled_of s.settled.items) (settled_of bs) k.2 true)
          (sym is)
          (put_settled s.settled.items k.2 (settled_place pops)))
          pops.rest_is;
      has = has;
      waited = own.unsettled;
      nearest = λ w m at waits.
          subst
          (λ (j : Entry). IsUpTo j (entry_of m w))
          (own.is ∙ ap (λ (n : Label). entry_of n k.2) (one_label (label_of s.labels.items) k.2 own.own l own.has has))
          (pops.least (entry_of m w) (pops.queue.waits w m at waits));
    }
  where
    own : IsEntry (label_of s.labels.items) (settled_of s.settled.items) k
    own = popped pops

-- a node that is settled has a place
settles_place : {g : GraphView} {s s' : Search} {v : ℕ} {l : Label} → IsAtRest g s → Settles s s' v l → v < length s.settled.items
settles_place {g} {s} {s'} {v} {l} rest step =
    let low = has_place s.labels.items v l step.has in
    let labels = rest.on.labels_len in
    let settled = rest.on.settled_len in
    omega arith

-- the node is one of the graph
pub settles_node : {g : GraphView} {s s' : Search} {v : ℕ} {l : Label} → IsAtRest g s → Settles s s' v l → v < g.nodes
settles_node {g} {s} {s'} {v} {l} rest step =
    let low = settles_place rest step in
    let settled = rest.on.settled_len in
    omega arith

-- after it is settled the arcs into it are pending
pub row_next : {g : GraphView} {s s' : Search} {v : ℕ} {l : Label} (row : List ℕ) → IsAtRest g s → Settles s s' v l
    → IsInto g.arcs v row → IsSearching g s' l row
row_next {g} {s} {s'} {v} {l} row rest step into =
    record {
      limits = rest.on.limits;
      labels_len = ap length same_labels ∙ rest.on.labels_len;
      settled_len = ap length step.settled ∙ length-set s.settled.items v true ∙ rest.on.settled_len;
      search =
          subst
          (λ (d : ℕ). IsSearch g d (label_of s'.labels.items) settled' (settled_count s'.settled.items) l row)
          (sym step.destination)
          (subst
          (λ (ls : List (Option Label)). IsSearch g s.destination (label_of ls) settled' (settled_count s'.settled.items) l row)
          (sym same_labels)
          (subst
          (λ (n : ℕ). IsSearch g s.destination (label_of s.labels.items) settled' n l row)
          (sym (ap settled_count step.settled ∙ count_more s.settled.items v low step.waited))
          next));
      queue = step.queue;
    }
  where
    same_labels : s'.labels.items ≡ s.labels.items
    same_labels = ap (λ (ls : Vec (Option Label) Global). ls.items) step.labels

    low : v < length s.settled.items
    low = settles_place rest step

    settled' : ℕ → Bool
    settled' = settled_of s'.settled.items

    next : IsSearch g s.destination (label_of s.labels.items) (settled_of s'.settled.items) (settled_count s.settled.items + 1) l row
    next =
        settled_next
        rest.on.limits
        rest.on.search
        (subst
        (λ (bs : List Bool). IsPut (settled_of s.settled.items) (settled_of bs) v true)
        (sym step.settled)
        (put_settled s.settled.items v low))
        step.has
        step.waited
        step.nearest
        into

-- fewer nodes are left, which is the measure of the loop
pub fewer_left : {g : GraphView} {s s' : Search} {v : ℕ} {l : Label} → IsAtRest g s → Settles s s' v l
    → (length s'.settled.items - settled_count s'.settled.items) < (length s.settled.items - settled_count s.settled.items)
fewer_left {g} {s} {s'} {v} {l} rest step =
    let low = settles_place rest step in
    let more : settled_count s'.settled.items ≡ settled_count s.settled.items + 1 =
    ap settled_count step.settled ∙ count_more s.settled.items v low step.waited in
    let same : length s'.settled.items ≡ length s.settled.items = ap length step.settled ∙ length-set s.settled.items v true in
    let room = count_room s.settled.items v low step.waited in
    omega arith

-- once all nodes with a label are settled the labels are a table
pub routes_made : {g : GraphView} {s s' : Search} → IsAtRest g s → IsAtEnd s s' → s.destination < g.nodes
    → IsRoutes g s'.labels.items s.destination
routes_made {g} {s} {s'} rest end low =
    subst
    (λ (ls : Vec (Option Label) Global). IsRoutes g ls.items s.destination)
    (sym end.labels)
    (record {
      limits = rest.on.limits;
      len = rest.on.labels_len;
      place = low;
      table =
          finished rest.on.limits rest.on.search end.all;
    })
