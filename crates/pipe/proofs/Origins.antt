-- Lists of visits that rise in the canonical order, and where a due visit comes from.
use Rattle.std.proofs.Common.{◌≡◌, ◌⊎◌, inl, inr, ⊎_elim, zero, suc, ◌<◌, List, [], ◌∷◌, ◌++◌, filter_map, Some, AllPairs, refl, slice_index_or, sym, ap, ◌∙◌, subst, arith}
use Rattle.mn_base.specs.Among.{Among}
use Rattle.mn_base.specs.declared.due.Due.{Due}
use Rattle.mn_base.specs.Canonical.{Before}
use Rattle.pipe.specs.Scheme.{Scheme, dues_by, Rises, AreMade, IsOrderly}
use Rattle.mn_base.proofs.Members.{Among-append-left, Among-append-right, Among-append, Among-filter_map, Among-from-filter_map, Among-index, split_at}
use Rattle.pipe.proofs.CanonicalOrder.{before-irreflexive, before-asymmetric}

module _ {V : Type 0} (s : Scheme V) where
  -- a visit that is after all others may follow them
  pub rises-push : (J : List V) (v : V) → Rises s J → ((u : V) → Among u J → Before (s.due_of u) (s.due_of v)) → Rises s (J ++ v ∷ [])
  rises-push [] v r all = (λ w h. absurd h, tt)
  rises-push (u ∷ J) v r all = (first, rises-push J v r.1 (λ w h. all w (inr h)))
    where
      first : (w : V) → Among w (J ++ v ∷ []) → Before (s.due_of u) (s.due_of w)
      first w h = ⊎_elim (λ l. r.0 w l) behind (Among-append w J (v ∷ []) h)
        where
          behind : Among w (v ∷ []) → Before (s.due_of u) (s.due_of w)
          behind (inl e) = subst (λ (z : V). Before (s.due_of u) (s.due_of z)) e (all u (inl refl))
          behind (inr n) = absurd n

  -- all of a front is before what follows it
  pub rises-across : (front rest : List V) (u w : V) → Rises s (front ++ rest) → Among u front → Among w rest
      → Before (s.due_of u) (s.due_of w)
  rises-across [] rest u w r h k = absurd h
  rises-across (v ∷ front) rest u w r (inl e) k =
      subst (λ (z : V). Before (s.due_of z) (s.due_of w)) e (r.0 w (Among-append-right w front rest k))
  rises-across (v ∷ front) rest u w r (inr h) k = rises-across front rest u w r.1 h k

  pub rises-front : (front rest : List V) → Rises s (front ++ rest) → Rises s front
  rises-front [] rest r = tt
  rises-front (v ∷ front) rest r = (λ w h. r.0 w (Among-append-left w front rest h), rises-front front rest r.1)

  pub rises-rest : (front rest : List V) → Rises s (front ++ rest) → Rises s rest
  rises-rest [] rest r = r
  rises-rest (v ∷ front) rest r = rises-rest front rest r.1

  -- a visit that is before v stands in front of v
  pub rises-in_front : (front rest : List V) (u v : V) → Rises s (front ++ v ∷ rest) → Among u (front ++ v ∷ rest)
      → Before (s.due_of u) (s.due_of v) → Among u front
  rises-in_front front rest u v r h b = ⊎_elim (λ l. l) behind (Among-append u front (v ∷ rest) h)
    where
      behind : Among u (v ∷ rest) → Among u front
      behind (inl e) = absurd (before-irreflexive (s.due_of v) (subst (λ (z : V). Before (s.due_of z) (s.due_of v)) (sym e) b))
      behind (inr later) = absurd (before-asymmetric (s.due_of u) (s.due_of v) b ((rises-rest front (v ∷ rest) r).0 u later))

  -- no two visits have the same tick, packet and hop
  pub rises-same : (J : List V) (u v : V) → Rises s J → Among u J → Among v J → s.due_of u ≡ s.due_of v → u ≡ v
  rises-same [] u v r h k e = absurd h
  rises-same (w ∷ J) u v r (inl a) (inl b) e = sym a ∙ b
  rises-same (w ∷ J) u v r (inl a) (inr k) e =
      absurd (before-irreflexive (s.due_of v) (subst (λ (d : Due). Before d (s.due_of v)) (ap s.due_of a ∙ e) (r.0 v k)))
  rises-same (w ∷ J) u v r (inr h) (inl b) e =
      absurd (before-irreflexive (s.due_of u) (subst (λ (d : Due). Before d (s.due_of u)) (ap s.due_of b ∙ sym e) (r.0 u h)))
  rises-same (w ∷ J) u v r (inr h) (inr k) e = rises-same J u v r.1 h k e

  -- a rising list rises between any two indices
  pub rises-pairs : (J : List V) → Rises s J → AllPairs (λ v w. Before (s.due_of v) (s.due_of w)) J
  rises-pairs [] r i j d l m = absurd (omega arith)
  rises-pairs (v ∷ J) r i zero d l m = absurd (omega arith)
  rises-pairs (v ∷ J) r zero (suc j) d l m = r.0 (slice_index_or J j d) (Among-index J j d (omega arith))
  rises-pairs (v ∷ J) r (suc i) (suc j) d l m = rises-pairs J r.1 i j d (omega arith) (omega arith)

  -- a due visit is due at first, or follows a visit of J
  abbrev pub OriginBy : List V → Due → Type 0
  OriginBy J x = Among x s.first ⊎ ((v : V) × Among v J × (s.next v ≡ Some x))

  pub origin_by : (J : List V) (x : Due) → Among x (dues_by s J) → OriginBy J x
  origin_by J x h = ⊎_elim (λ l. inl l) (λ l. inr (Among-from-filter_map s.next x J l)) (Among-append x s.first (filter_map s.next J) h)

  pub due_from-first : (J : List V) (x : Due) → Among x s.first → Among x (dues_by s J)
  due_from-first J x h = Among-append-left x s.first (filter_map s.next J) h

  pub due_from-visit : (J : List V) (v : V) (x : Due) → Among v J → s.next v ≡ Some x → Among x (dues_by s J)
  due_from-visit J v x h e = Among-append-right x s.first (filter_map s.next J) (Among-filter_map s.next v x J h e)

  -- one visit more takes nothing from what is due
  pub dues-push : (J : List V) (v : V) (y : Due) → Among y (dues_by s J) → Among y (dues_by s (J ++ v ∷ []))
  dues-push J v y a = go (origin_by J y a)
    where
      go : OriginBy J y → Among y (dues_by s (J ++ v ∷ []))
      go (inl m) = due_from-first (J ++ v ∷ []) y m
      go (inr m) = due_from-visit (J ++ v ∷ []) m.0 y (Among-append-left m.0 J (v ∷ []) m.1) m.2

  -- what follows a visit is due later than it
  pub later_by : IsOrderly s → (J : List V) (v : V) (x : Due) → AreMade s J → Among v J → s.next v ≡ Some x → (s.due_of v).tick < x.tick
  later_by o J v x made h e =
      let p = split_at v J h in
      o.later p.front (s.due_of v) x (ap s.next (sym (made p.front p.rest v p.is)) ∙ e)
