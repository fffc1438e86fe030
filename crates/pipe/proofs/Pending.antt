-- A maker holds what is pending in a list, takes the first out, makes the visit and puts in what follows: then the list holds what is
-- pending after that visit. Where the list is empty, the visits made are a journal.
use Rattle.std.proofs.Common.{◌≡◌, ◌⊎◌, inl, inr, ⊎_elim, ◌+◌, ◌<◌, ◌≤◌, Bool, true, false, List, [], ◌∷◌, ◌++◌, Some, refl, sym, ap, ◌∙◌, subst, arith, true≢false}
use Rattle.mn_base.specs.Among.{Among}
use Rattle.mn_base.specs.declared.due.Due.{Due}
use Rattle.mn_base.specs.Canonical.{Before}
use Rattle.pipe.specs.Scheme.{Scheme, dues_by, IsJournalBy, is_done_by, pending_by, IsGrowingBy, IsOrderly, HoldsPending, TakesFirst, AddsNext}
use Rattle.mn_base.proofs.Members.{Among-last, Among-push}
use Rattle.pipe.proofs.CanonicalOrder.{before-irreflexive, before-asymmetric, before-tick}
use Rattle.pipe.proofs.Origins.{OriginBy, origin_by, due_from-first, due_from-visit, dues-push}
use Rattle.pipe.proofs.Growing.{IsLeastBy, done-true, done_parts, undone, done-push, earlier, one_pending, growing_whole}
use Rattle.pipe.proofs.Grown.{pending_from, pending_parts}

module _ {V : Type 0} (s : Scheme V) (o : IsOrderly s) (J : List V) (g : IsGrowingBy s J) where
  -- where nothing is held, the list is a journal
  pub held-whole : HoldsPending s J [] → IsJournalBy s J
  held-whole h = growing_whole s o J g (λ x a. go x a (is_done_by s J x) refl)
    where
      go : (x : Due) → Among x (dues_by s J) → (b : Bool) → is_done_by s J x ≡ b → is_done_by s J x ≡ true
      go x a true t = t
      go x a false t = absurd ((h x).1 (pending_from s J x a t))

  module _ (held : List Due) (x : Due) (rest : List Due) (h : HoldsPending s J held) (t : TakesFirst held x rest) where
    first-pending : Among x (pending_by s J)
    first-pending = (h x).0 ((t.taken x).1 (inl refl))

    rest-pending : (y : Due) → Among y rest → Among y (pending_by s J)
    rest-pending y a = (h y).0 ((t.taken y).1 (inr a))

    pub taken-due : Among x (dues_by s J)
    taken-due = (pending_parts s J x first-pending).0

    undone-x : is_done_by s J x ≡ false
    undone-x = (pending_parts s J x first-pending).1

    -- the one that is taken out is the least that is pending
    pub taken-least : IsLeastBy s J x
    taken-least = record {
      due = taken-due;
      waits = undone-x;
      least = λ y a w before. go y before ((t.taken y).0 ((h y).1 (pending_from s J y a w)));
    }
      where
        go : (y : Due) → Before y x → (x ≡ y) ⊎ Among y rest → ⊥
        go y before (inl e) = before-irreflexive x (subst (λ (d : Due). Before d x) (sym e) before)
        go y before (inr later) = before-asymmetric x y (t.first y later) before

    -- all visits so far are by its tick
    pub taken-order : (v : V) → Among v J → (s.due_of v).tick ≤ x.tick
    taken-order v a = before-tick (s.due_of v) x (g.ahead v x a taken-due undone-x)

    -- nothing else of its packet is pending
    pub taken-alone : (y : Due) → Among y rest → y.packet ≡ x.packet → ⊥
    taken-alone y a same =
        let p = pending_parts s J y (rest-pending y a) in
        let one : y ≡ x = one_pending s o J g y x p.0 taken-due p.1 undone-x same in
        before-irreflexive x (subst (λ (d : Due). Before x d) one (t.first y a))

    -- a visit of a later hop of its packet can't be among those made
    not_later : (u : V) → Among u J → (s.due_of u).packet ≡ x.packet → x.hop < (s.due_of u).hop → ⊥
    not_later u a p l =
        let r = earlier s o J g x.hop u a (omega arith) in
        true≢false (sym (done-true s J r.visit x r.among (r.packet ∙ p) r.at) ∙ undone-x)

    abbrev new : V
    new = s.make J x

    is_x : s.due_of new ≡ x
    is_x = o.due J x

    -- what follows the visit isn't done
    next-undone : (y : Due) → s.next new ≡ Some y → is_done_by s (J ++ new ∷ []) y ≡ false
    next-undone y e = done-push s J new y (go (is_done_by s J y) refl) (λ p k. absurd (omega (arith, hop, k)))
      where
        hop : y.hop ≡ (s.due_of new).hop + 1
        hop = o.hop new y e

        packet : y.packet ≡ x.packet
        packet = o.packet new y e ∙ ap (λ (d : Due). d.packet) is_x

        go : (b : Bool) → is_done_by s J y ≡ b → is_done_by s J y ≡ false
        go false d = d
        go true d =
            let q = done_parts s J y d in
            let up : (s.due_of q.visit).hop ≡ y.hop = q.hop in
            let at : (s.due_of new).hop ≡ x.hop = ap (λ (z : Due). z.hop) is_x in
            absurd (not_later q.visit q.among (q.packet ∙ packet) (omega (arith, up, hop, at)))

    -- what was pending beside it still is
    rest-undone : (y : Due) → Among y rest → is_done_by s (J ++ new ∷ []) y ≡ false
    rest-undone y a =
        done-push s J new y (pending_parts s J y (rest-pending y a)).1
        (λ p k. taken-alone y a (sym p ∙ ap (λ (d : Due). d.packet) is_x))

    -- the list after the visit, with what follows put in
    pub held-push : (after : List Due) → AddsNext (s.next new) rest after → HoldsPending s (J ++ new ∷ []) after
    held-push after adds y = (λ a. into ((adds y).0 a), λ a. out (pending_parts s (J ++ new ∷ []) y a))
      where
        into : (s.next new ≡ Some y) ⊎ Among y rest → Among y (pending_by s (J ++ new ∷ []))
        into (inl e) =
            pending_from s (J ++ new ∷ []) y (due_from-visit s (J ++ new ∷ []) new y (Among-last new J) e) (next-undone y e)
        into (inr a) =
            pending_from s (J ++ new ∷ []) y (dues-push s J new y (pending_parts s J y (rest-pending y a)).0) (rest-undone y a)

        -- what was due before and is still pending is after it
        old : Among y (dues_by s J) → is_done_by s (J ++ new ∷ []) y ≡ false → Among y after
        old a w = place ((t.taken y).0 ((h y).1 (pending_from s J y a (undone s J new y w))))
          where
            place : (x ≡ y) ⊎ Among y rest → Among y after
            place (inl e) =
                absurd (true≢false (sym (done-true s (J ++ new ∷ []) new y (Among-last new J)
                (ap (λ (d : Due). d.packet) (is_x ∙ e)) (ap (λ (d : Due). d.hop) (is_x ∙ e))) ∙ w))
            place (inr b) = (adds y).1 (inr b)

        out : Among y (dues_by s (J ++ new ∷ [])) × (is_done_by s (J ++ new ∷ []) y ≡ false) → Among y after
        out p = go (origin_by s (J ++ new ∷ []) y p.0)
          where
            go : OriginBy s (J ++ new ∷ []) y → Among y after
            go (inl m) = old (due_from-first s J y m) p.1
            go (inr m) = ⊎_elim (λ b. old (due_from-visit s J m.0 y b m.2) p.1) now (Among-push m.0 J new m.1)
              where
                now : new ≡ m.0 → Among y after
                now e = (adds y).1 (inl (ap s.next e ∙ m.2))
