-- The steps of a search on its lists.
use Rattle.std.specs.Prelude.{◌≡◌, ◌↔◌, ℕ, ◌⊎◌, true, false, List, [], length, Some, slice_set}
use Rattle.mn_base.specs.Among.{Among}
use Rattle.routes.specs.declared.label.Label.{Label}
use Rattle.routes.specs.declared.search.Search.{Search}
use Rattle.routes.specs.GraphView.{GraphView, IsWithinLimits}
use Rattle.routes.specs.NodeQueue.{Entry}
use Rattle.routes.specs.Table.{label_of, IsNoFarther, IsNoWorse, HasNoWorse}
use Rattle.routes.specs.Search.{settled_of, settled_count, entry_of, IsNodeQueue, IsSearch}

-- what is known at each step: last is the label of the node that was settled last, and the pending arcs are still to be looked at
pub record IsSearching (g : GraphView) (s : Search) (last : Label) (pending : List ℕ) : Type 0 where
  pub limits : IsWithinLimits g
  pub labels_len : length s.labels.items ≡ g.nodes
  pub settled_len : length s.settled.items ≡ g.nodes
  pub search :
      IsSearch g s.destination (label_of s.labels.items) (settled_of s.settled.items) (settled_count s.settled.items) last pending
  pub queue : IsNodeQueue (label_of s.labels.items) (settled_of s.settled.items) s.queue

-- no arc is pending
pub record IsAtRest (g : GraphView) (s : Search) : Type 0 where
  pub last : Label
  pub on : IsSearching g s last []

-- the node v with the label l is settled: it wasn't, and no node that isn't settled is nearer
pub record Settles (s s' : Search) (v : ℕ) (l : Label) : Type 0 where
  pub destination : s'.destination ≡ s.destination
  pub labels : s'.labels ≡ s.labels
  pub settled : s'.settled.items ≡ slice_set s.settled.items v true
  pub queue : IsNodeQueue (label_of s'.labels.items) (settled_of s'.settled.items) s'.queue
  pub has : label_of s.labels.items v ≡ Some l
  pub waited : settled_of s.settled.items v ≡ false
  pub nearest : (w : ℕ) (m : Label) → label_of s.labels.items w ≡ Some m → settled_of s.settled.items w ≡ false → IsNoFarther l m

-- each node that has a label is settled
pub record IsAtEnd (s s' : Search) : Type 0 where
  pub destination : s'.destination ≡ s.destination
  pub labels : s'.labels ≡ s.labels
  pub all : (v : ℕ) (l : Label) → label_of s.labels.items v ≡ Some l → settled_of s.settled.items v ≡ true

-- the node v gets the label l, and an entry of it
pub record Puts (s s' : Search) (v : ℕ) (l : Label) : Type 0 where
  pub destination : s'.destination ≡ s.destination
  pub settled : s'.settled ≡ s.settled
  pub labels : s'.labels.items ≡ slice_set s.labels.items v (Some l)
  pub queue : (k : Entry) → Among k s'.queue ↔ ((entry_of l v ≡ k) ⊎ Among k s.queue)

-- the node v is settled or has a label that is no worse than c, so nothing changes
pub record KeepsLabel (s s' : Search) (v : ℕ) (c : Label) : Type 0 where
  pub same : s' ≡ s
  pub won : (settled_of s.settled.items v ≡ true) ⊎ HasNoWorse (label_of s.labels.items) v c

-- the node v isn't settled, and gets the label c, which is no worse than what it had
pub record TakesLabel (s s' : Search) (v : ℕ) (c : Label) : Type 0 where
  pub destination : s'.destination ≡ s.destination
  pub settled : s'.settled ≡ s.settled
  pub labels : s'.labels.items ≡ slice_set s.labels.items v (Some c)
  pub queue : IsNodeQueue (label_of s'.labels.items) (settled_of s'.settled.items) s'.queue
  pub waits : settled_of s.settled.items v ≡ false
  pub better : (l : Label) → label_of s.labels.items v ≡ Some l → IsNoWorse c l

-- what the offer of the label c to the node v leaves
abbrev pub Offers : Search → Search → ℕ → Label → Type 0
Offers s s' v c = KeepsLabel s s' v c ⊎ TakesLabel s s' v c

-- arcs into the node that was settled last were looked at, and the pending ones are left
pub record Relaxes (g : GraphView) (s s' : Search) (last : Label) (pending : List ℕ) : Type 0 where
  pub destination : s'.destination ≡ s.destination
  pub settled : s'.settled ≡ s.settled
  pub on : IsSearching g s' last pending
