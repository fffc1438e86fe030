-- A label is offered to a node: it is refused, or taken with a new entry in the queue.
use Rattle.std.proofs.Common.{◌≡◌, ◌≢◌, ◌↔◌, ℕ, ◌<◌, ◌⊎◌, inl, inr, Bool, false, List, ◌∷◌, length, set, Option, Some, None, Result, Ok, Err, OnOk, get_or, Vec, Global, sym, ap, subst, ◌∙◌, arith, length-set}
use Rattle.mn_base.specs.Among.{Among}
use Rattle.routes.specs.declared.label.Label.{Label}
use Rattle.routes.specs.declared.search.Search.{Search}
use Rattle.routes.specs.GraphView.{GraphView}
use Rattle.routes.specs.NodeQueue.{Entry}
use Rattle.routes.specs.Walk.{arc_at}
use Rattle.routes.specs.Table.{label_of, offer_of, IsNoWorse}
use Rattle.routes.specs.Search.{settled_of, settled_count, entry_of, IsNodeQueue, IsSearch}
use Rattle.routes.specs.Searching.{IsSearching, Puts, KeepsLabel, TakesLabel, Offers}
use Rattle.routes.proofs.Lists.{settled_read, put_label}
use Rattle.routes.proofs.LabelOrder.{no_worse_otherwise}
use Rattle.routes.proofs.SearchSteps.{IsPut, one_label, kept, kept_settled, bettered}
use Rattle.routes.proofs.QueueSteps.{queue_moved, no_entry, one_entry}

-- the node v isn't settled
pub record IsOpen (s : Search) (v : ℕ) : Type 0 where
  pub node : v < length s.labels.items
  pub queue : IsNodeQueue (label_of s.labels.items) (settled_of s.settled.items) s.queue
  pub waits : settled_of s.settled.items v ≡ false

-- the same by the steps of the code, where b is the mark that is read
pub is_open : (s : Search) (v : ℕ) → v < length s.labels.items → length s.settled.items ≡ length s.labels.items
    → IsNodeQueue (label_of s.labels.items) (settled_of s.settled.items) s.queue
    → (b : Bool) → b ≡ get_or s.settled.items v b → b ≡ false → IsOpen s v
is_open s v low places queue b read is =
    record { node = low; queue = queue; waits = settled_read s.settled.items v b (omega arith) read ∙ is }

-- what holds of an answer Ok
pub on_ok : {T E : Type 0} {P Q : Type 0} (r : Result T E) → (P → Q) → OnOk r P → OnOk r Q
on_ok (Ok x) gives p = gives p
on_ok (Err e) gives p = tt

-- the queue of s' has the entry of c at v, and all others of s
pub record Moves (s s' : Search) (v : ℕ) (c : Label) : Type 0 where
  pub destination : s'.destination ≡ s.destination
  pub settled : s'.settled ≡ s.settled
  pub labels : s'.labels.items ≡ set s.labels.items v (Some c)
  pub queue : (k : Entry) → Among k s'.queue ↔ ((entry_of c v ≡ k) ⊎ (Among k s.queue × (k.2 ≢ v)))

-- so it is again the queue of the nodes that aren't settled
takes : {s s' : Search} {v : ℕ} {c : Label} → IsOpen s v → Moves s s' v c
    → ((l : Label) → label_of s.labels.items v ≡ Some l → IsNoWorse c l) → TakesLabel s s' v c
takes {s} {s'} {v} {c} on moves better =
    record {
      destination = moves.destination;
      settled = moves.settled;
      labels = moves.labels;
      queue =
          subst
          (λ (bs : Vec Bool Global). IsNodeQueue (label_of s'.labels.items) (settled_of bs.items) s'.queue)
          (sym moves.settled)
          (queue_moved
          s'.queue
          on.queue
          (subst
          (λ (ls : List (Option Label)). IsPut (label_of s.labels.items) (label_of ls) v (Some c))
          (sym moves.labels)
          (put_label s.labels.items v c on.node))
          on.waits
          moves.queue);
      waits = on.waits;
      better = better;
    }

-- a node that had no label had no entry
pub takes_first : {s s' : Search} {v : ℕ} {c : Label} → IsOpen s v → label_of s.labels.items v ≡ None → Puts s s' v c → TakesLabel s s' v c
takes_first {s} {s'} {v} {c} on none puts =
    takes
    on
    (record {
      destination = puts.destination;
      settled = puts.settled;
      labels = puts.labels;
      queue = λ k. (
        λ there.
            elim ((puts.queue k).0 there) [
              | inl new ↦ inl new
              | inr old ↦
                  inr (old, no_entry v on.queue none k old)
            ],
        λ either. elim either [ inl new ↦ (puts.queue k).1 (inl new) | inr old ↦ (puts.queue k).1 (inr old.0) ],
      );
    })
    (λ l has. absurd (let e : None ≡ Some l = sym none ∙ has in cc))

-- a node that had a worse label had its entry, which was removed
pub takes_again : {s s' : Search} {v : ℕ} {c : Label} (own : Label) (rest : List Entry) → IsOpen s v
    → label_of s.labels.items v ≡ Some own → (IsNoWorse own c → ⊥)
    → ((k : Entry) → Among k rest ↔ (Among k s.queue × (k ≢ entry_of own v)))
    → Puts (record s { queue = rest }) s' v c → TakesLabel s s' v c
takes_again {s} {s'} {v} {c} own rest on has worse removed puts =
    takes
    on
    (record {
      destination = puts.destination;
      settled = puts.settled;
      labels = puts.labels;
      queue = λ k. (
        λ there.
            elim ((puts.queue k).0 there) [
              | inl new ↦ inl new
              | inr left ↦ let both = (removed k).0 left in inr (both.0, (only k both.0).0 both.1)
            ],
        λ either.
            elim either [
              | inl new ↦ (puts.queue k).1 (inl new)
              | inr old ↦ (puts.queue k).1 (inr ((removed k).1 (old.0, (only k old.0).1 old.1)))
            ],
      );
    })
    (λ l at.
    subst
    (λ (m : Label). IsNoWorse c m)
    (one_label (label_of s.labels.items) v own l has at)
    (no_worse_otherwise own c worse))
  where
    only : (k : Entry) → Among k s.queue → (k ≢ entry_of own v) ↔ (k.2 ≢ v)
    only k there = one_entry v own on.queue has k there

-- after the offer of an arc that was pending the others are left to be looked at
module _ (g : GraphView) (s s' : Search) (last : Label) (e : ℕ) (rest : List ℕ)
    (on : IsSearching g s last (e ∷ rest)) where
  -- where nothing changes, since the start of the arc has no worse label
  refused : KeepsLabel s s' (arc_at g.arcs e).from (offer_of g.arcs e last) → IsSearching g s' last rest
  refused nothing =
      subst
      (λ (t : Search). IsSearching g t last rest)
      (sym nothing.same)
      (record {
        limits = on.limits;
        labels_len = on.labels_len;
        settled_len = on.settled_len;
        search =
            elim nothing.won [
              | inl done ↦ kept_settled on.limits on.search done
              | inr won ↦ kept on.limits on.search won
            ];
        queue = on.queue;
      })

  -- where it is taken
  taken : (arc_at g.arcs e).from < length s.labels.items → TakesLabel s s' (arc_at g.arcs e).from (offer_of g.arcs e last)
      → IsSearching g s' last rest
  taken low step =
      record {
        limits = on.limits;
        labels_len =
            ap length step.labels
            ∙ length-set s.labels.items (arc_at g.arcs e).from (Some (offer_of g.arcs e last))
            ∙ on.labels_len;
        settled_len = ap (λ (bs : Vec Bool Global). length bs.items) step.settled ∙ on.settled_len;
        search =
            subst
            (λ (d : ℕ). IsSearch g d label' (settled_of s'.settled.items) (settled_count s'.settled.items) last rest)
            (sym step.destination)
            (subst
            (λ (bs : Vec Bool Global). IsSearch g s.destination label' (settled_of bs.items) (settled_count bs.items) last rest)
            (sym step.settled)
            (bettered
            on.limits
            on.search
            (subst
            (λ (ls : List (Option Label)).
            IsPut (label_of s.labels.items) (label_of ls) (arc_at g.arcs e).from (Some (offer_of g.arcs e last)))
            (sym step.labels)
            (put_label s.labels.items (arc_at g.arcs e).from (offer_of g.arcs e last) low))
            step.waits
            step.better));
        queue = step.queue;
      }
    where
      label' : ℕ → Option Label
      label' = label_of s'.labels.items

  -- in both cases
  pub offered : (arc_at g.arcs e).from < length s.labels.items → Offers s s' (arc_at g.arcs e).from (offer_of g.arcs e last)
      → IsSearching g s' last rest
  offered low step = elim step [ inl nothing ↦ refused nothing | inr more ↦ taken low more ]
