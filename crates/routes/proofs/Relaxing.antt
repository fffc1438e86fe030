-- One arc of the row is looked at: what the code needs of it, and what its offer leaves.
use Rattle.std.proofs.Common.{◌≡◌, ℕ, ◌+◌, ◌^◌, ◌<◌, Bool, List, ◌∷◌, length, get_or, drop, inl, inr, refl, ap, subst, ◌∙◌, arith, add-one}
use Rattle.std.proofs.Math.Seq.{drop-cons}
use Rattle.std.proofs.lemmas.List.Sums.{count_by-le-length}
use Rattle.mn_base.specs.declared.limits.TheConstants.{NODES_MAX}
use Rattle.routes.specs.declared.graph.Arc.{Arc}
use Rattle.routes.specs.declared.label.Label.{Label}
use Rattle.routes.specs.declared.search.Search.{Search}
use Rattle.routes.specs.GraphView.{GraphView, IsArcAmong}
use Rattle.routes.specs.Walk.{no_arc, arc_at}
use Rattle.routes.specs.Table.{label_of, offer_of}
use Rattle.routes.specs.Search.{settled_of, settled_count, IsPending}
use Rattle.routes.specs.Searching.{IsSearching, Offers, Relaxes}
use Rattle.routes.proofs.Offering.{offered}

-- the arc row[i] is looked at
pub record LooksAt (g : GraphView) (s : Search) (last : Label) (row : List ℕ) (i : ℕ) : Type 0 where
  pub on : IsSearching g s last (drop i row)
  pub more : i < length row

-- the same by the steps of the code
pub looks_at : {g : GraphView} {s : Search} {last : Label} (row : List ℕ) (i : ℕ)
    → IsSearching g s last (drop i row) → i < length row → LooksAt g s last row i
looks_at row i on more = record { on = on; more = more }

-- an offer leaves the destination as it is
offers-destination : (s s' : Search) (v : ℕ) (c : Label) → Offers s s' v c → s'.destination ≡ s.destination
offers-destination s s' v c step =
    elim step [ inl nothing ↦ ap (λ (t : Search). t.destination) nothing.same | inr more ↦ more.destination ]

-- and the settled nodes
offers-settled : (s s' : Search) (v : ℕ) (c : Label) → Offers s s' v c → s'.settled ≡ s.settled
offers-settled s s' v c step =
    elim step [ inl nothing ↦ ap (λ (t : Search). t.settled) nothing.same | inr more ↦ more.settled ]

module _ {g : GraphView} {s : Search} {last : Label} {row : List ℕ} {i : ℕ} (at : LooksAt g s last row i) where
  -- it is the first of those that are pending
  first : IsSearching g s last (get_or row i 0 ∷ drop (i + 1) row)
  first =
      let low : i < length row = at.more in
      subst (λ (es : List ℕ). IsSearching g s last es) (rw (add-one, drop-cons row i 0)) at.on

  -- which leads into the node that was settled last
  pending : IsPending g.arcs (label_of s.labels.items) (settled_of s.settled.items) (settled_count s.settled.items) last (get_or row i 0)
  pending = first.search.pends (get_or row i 0) (inl refl)

  -- between two nodes, with a weight in its range
  among : IsArcAmong g.nodes (arc_at g.arcs (get_or row i 0))
  among = at.on.limits.arcs (get_or row i 0) no_arc pending.below

  -- so it is an arc of the graph
  pub arc_below : get_or row i 0 < length g.arcs
  arc_below = pending.below

  -- and its start a node
  pub from_below : (arc_at g.arcs (get_or row i 0)).from < length s.labels.items
  from_below = let from = among.from in let len = at.on.labels_len in omega arith

  -- there are no more nodes settled than a graph has
  few : last.hops < NODES_MAX
  few =
      let room = pending.room in
      let most = count_by-le-length (λ (b : Bool). b) s.settled.items in
      let len = at.on.settled_len in
      let nodes = at.on.limits.nodes in
      omega arith

  pub hops_fit : last.hops + 1 < 2 ^ 32
  hops_fit = let low = few in omega arith

  -- each of the fewer arcs before weighs at most what an arc may
  pub weight_fits : (arc_at g.arcs (get_or row i 0)).weight + last.weight < 2 ^ 64
  weight_fits =
      let arc = among.weight in
      let light = at.on.search.light (arc_at g.arcs (get_or row i 0)).to last pending.to in
      let low = few in
      omega arith

  -- its offer leaves the arcs after it
  pub one_less : (s' : Search) → Offers s s' (arc_at g.arcs (get_or row i 0)).from (offer_of g.arcs (get_or row i 0) last)
      → IsSearching g s' last (drop (i + 1) row)
  one_less s' step = offered g s s' last (get_or row i 0) (drop (i + 1) row) first from_below step

-- so the loop goes on, where a is the arc that is read
pub relaxes_on : {g : GraphView} {s t : Search} {last : Label} (t' : Search) (row : List ℕ) (i : ℕ) (a : Arc)
    → Relaxes g s t last (drop i row) → i < length row → a ≡ arc_at g.arcs (get_or row i 0)
    → Offers t t' a.from (record { weight = a.weight + last.weight; hops = last.hops + 1; next = get_or row i 0 })
    → Relaxes g s t' last (drop (i + 1) row)
relaxes_on {g} {s} {t} {last} t' row i a before more read step =
    record {
      destination = offers-destination t t' _ _ offers ∙ before.destination;
      settled = offers-settled t t' _ _ offers ∙ before.settled;
      on = one_less (looks_at row i before.on more) t' offers;
    }
  where
    offers : Offers t t' (arc_at g.arcs (get_or row i 0)).from (offer_of g.arcs (get_or row i 0) last)
    offers =
        subst
        (λ (b : Arc). Offers t t' b.from (record { weight = b.weight + last.weight; hops = last.hops + 1; next = get_or row i 0 }))
        read
        step
