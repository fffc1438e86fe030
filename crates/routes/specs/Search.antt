-- A search on its way. Nodes are settled from the destination on, nearest first; a node that isn't settled has the best label that
-- the arcs into settled nodes offer it.
use Rattle.std.specs.Prelude.{◌≡◌, ◌≢◌, ℕ, ◌*◌, ◌<◌, ◌≤◌, ◌⊎◌, Bool, true, false, List, [], length, map, Option, Some, Vec, slice_index_or, count_by}
use Rattle.mn_base.specs.declared.limits.TheConstants.{PIPE_LATENCY_US_MAX}
use Rattle.mn_base.specs.Among.{Among}
use Rattle.routes.specs.declared.graph.Arc.{Arc}
use Rattle.routes.specs.declared.label.Label.{Label}
use Rattle.routes.specs.GraphView.{GraphView}
use Rattle.routes.specs.NodeQueue.{Entry}
use Rattle.routes.specs.Walk.{arc_at}
use Rattle.routes.specs.Table.{home, offer_of, IsNoFarther, IsLedBy, HasNoWorse}

-- whether a node is settled
abbrev pub settled_of : List Bool → ℕ → Bool
settled_of settled v = slice_index_or settled v false

-- how many nodes are settled
abbrev pub settled_count : List Bool → ℕ
settled_count settled = count_by (λ b. b) settled

-- some label stands at the node
pub record HasLabel (label : ℕ → Option Label) (v : ℕ) : Type 0 where
  pub own : Label
  pub has : label v ≡ Some own

-- the node of a label is led by an arc whose end is settled
pub record IsLedBySettled (arcs : List Arc) (label : ℕ → Option Label) (settled : ℕ → Bool) (v : ℕ) (l : Label) : Type 0 where
  pub led : IsLedBy arcs label v l
  pub end : settled (arc_at arcs l.next).to ≡ true

-- an arc that is still to be looked at leads into the node that was settled last, which has the label last
pub record IsPending (arcs : List Arc) (label : ℕ → Option Label) (settled : ℕ → Bool) (count : ℕ) (last : Label) (e : ℕ) : Type 0 where
  pub below : e < length arcs
  pub end : settled (arc_at arcs e).to ≡ true
  pub to : label (arc_at arcs e).to ≡ Some last
  pub room : last.hops < count

-- the row has exactly the arcs into the node u
pub record IsInto (arcs : List Arc) (u : ℕ) (row : List ℕ) : Type 0 where
  pub all : (e : ℕ) → e < length arcs → (arc_at arcs e).to ≡ u → Among e row
  pub below : (e : ℕ) → Among e row → e < length arcs
  pub to : (e : ℕ) → Among e row → (arc_at arcs e).to ≡ u

-- last is the label of the node that was settled last; all settled nodes are no farther than it, and all others that have a
-- label no nearer; the pending arcs are still to be looked at
pub record IsSearch (g : GraphView) (destination : ℕ) (label : ℕ → Option Label) (settled : ℕ → Bool) (count : ℕ) (last : Label)
    (pending : List ℕ) : Type 0 where
  pub at_home : label destination ≡ Some home
  pub led : (v : ℕ) (l : Label) → label v ≡ Some l → v ≢ destination → IsLedBySettled g.arcs label settled v l
  pub offered : (e : ℕ) (m : Label) → e < length g.arcs → settled (arc_at g.arcs e).to ≡ true
      → label (arc_at g.arcs e).to ≡ Some m
      → Among e pending ⊎ HasNoWorse label (arc_at g.arcs e).from (offer_of g.arcs e m)
  pub pends : (e : ℕ) → Among e pending → IsPending g.arcs label settled count last e
  pub reached : (v : ℕ) → settled v ≡ true → HasLabel label v
  pub behind : (v : ℕ) (l : Label) → settled v ≡ true → label v ≡ Some l → IsNoFarther l last
  pub ahead : (v : ℕ) (l : Label) → settled v ≡ false → label v ≡ Some l → IsNoFarther last l
  pub few : (v : ℕ) (l : Label) → label v ≡ Some l → l.hops ≤ count
  pub light : (v : ℕ) (l : Label) → label v ≡ Some l → l.weight ≤ l.hops * PIPE_LATENCY_US_MAX

-- the entry of a node with this label: weight, number of arcs, node
abbrev pub entry_of : Label → ℕ → Entry
entry_of l v = (l.weight, l.hops, v)

-- an entry of the queue stands for a node that has a label and isn't settled
pub record IsEntry (label : ℕ → Option Label) (settled : ℕ → Bool) (k : Entry) : Type 0 where
  pub own : Label
  pub has : label k.2 ≡ Some own
  pub unsettled : settled k.2 ≡ false
  pub is : k ≡ entry_of own k.2

-- the queue has exactly the nodes that have a label and aren't settled
pub record IsNodeQueue (label : ℕ → Option Label) (settled : ℕ → Bool) (queue : List Entry) : Type 0 where
  pub waits : (v : ℕ) (l : Label) → label v ≡ Some l → settled v ≡ false → Among (entry_of l v) queue
  pub stands : (k : Entry) → Among k queue → IsEntry label settled k

-- for each node the arcs into it
pub record IsIncoming (g : GraphView) (rows : List (List ℕ)) : Type 0 where
  pub len : length rows ≡ g.nodes
  pub rows_are : (u : ℕ) → u < g.nodes → IsInto g.arcs u (slice_index_or rows u [])

-- the lists of a list of vectors
abbrev pub lists_of : {A : Type 0} → List (Vec ℕ A) → List (List ℕ)
lists_of {A} rows = map (λ (row : Vec ℕ A). row.items) rows
