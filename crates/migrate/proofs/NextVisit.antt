-- The first of all pending visits is the next one of the journal: what it asks of its pipe, and what is pending after it.
use Rattle.std.proofs.Common.{◌≡◌, ◌≢◌, ◌⊎◌, inl, inr, ⊎_elim, ℕ, ◌+◌, ◌*◌, ◌<◌, ◌≤◌, ◌==◌, Bool, true, false, not, List, [], ◌∷◌, ◌++◌, length, filter, Option, Some, None, slice_index_or, refl, sym, ap, ◌∙◌, subst, arith, eq-eqb}
use Rattle.std.specs.Prelude.{◌↔◌}
use Rattle.std.specs.List.{cons_option}
use Rattle.std.proofs.lemmas.Bool.{cases_eq, ne_eqb}
use Rattle.std.proofs.lemmas.List.{length_push}
use Rattle.mn_base.specs.Among.{Among}
use Rattle.mn_base.specs.Canonical.{Before}
use Rattle.mn_base.specs.declared.due.Due.{Due}
use Rattle.mn_base.specs.declared.limits.TheConstants.{PACKETS_MAX, TIME_NS_END}
use Rattle.pipe.specs.Scheme.{Scheme, is_done_by, HoldsPending, TakesFirst, AddsNext}
use Rattle.journal.specs.declared.visit.Visit.{Visit}
use Rattle.journal.specs.SetupView.{SetupView, route_of}
use Rattle.journal.specs.IsSetup.{IsSetup}
use Rattle.journal.specs.Hops.{due_of, pipe_of, next_hop}
use Rattle.journal.specs.Steps.{past_visit, visits_to, visit_of}
use Rattle.journal.specs.IsJournal.{scheme_of, dues}
use Rattle.journal.specs.Journal.{hop_count, pending}
use Rattle.mn_base.proofs.Members.{Among-filter, Among-from-filter}
use Rattle.pipe.proofs.CanonicalOrder.{before-tick}
use Rattle.pipe.proofs.Growing.{IsLeastBy, growing-push, least-before, one_pending}
use Rattle.pipe.proofs.Grown.{pending_from, pending_parts}
use Rattle.pipe.proofs.Pending.{held-push}
use Rattle.journal.proofs.Count.{growing_count}
use Rattle.journal.proofs.FewVisits.{few_packets, few_visits}
use Rattle.journal.proofs.Orderly.{IsGrowing, orderly}
use Rattle.journal.proofs.Packets.{packet-known, packet-route}
use Rattle.journal.proofs.Times.{IsOnWay, on_way, due_fits}
use Rattle.journal.proofs.VisitsTo.{visits_to-push_same}

module _ (S : SetupView) (is : IsSetup S) (J : List Visit) (g : IsGrowing S J) where
  abbrev scheme : Scheme Visit
  scheme = scheme_of S

  -- a pending visit is to a pipe of the setup
  pub pending-named : (x : Due) → Among x (pending S J) → pipe_of S x < length S.pipes
  pending-named x a =
      let w = on_way S is J g x (pending_parts scheme J x a).0 in
      let r = packet-route S is w.plan (packet-known S is w.plan w.among) in
      subst (λ (route : List ℕ). slice_index_or route x.hop 0 < length S.pipes) (r.is ∙ ap (route_of S) w.number)
      (r.named x.hop 0
      (subst (λ (route : List ℕ). x.hop < length route) (sym (r.is ∙ ap (route_of S) w.number)) w.within))

  -- of each packet one visit at most is pending
  pub pending-one : (x y : Due) → Among x (pending S J) → Among y (pending S J) → x.packet ≡ y.packet → x ≡ y
  pending-one x y a b same =
      let p = pending_parts scheme J x a in
      let q = pending_parts scheme J y b in
      one_pending scheme (orderly S is) J g x y p.0 q.0 p.1 q.1 same

  module _ (x : Due) (a : Among x (pending S J)) (first : (y : Due) → Among y (pending S J) → Before y x → ⊥) where
    due : Among x (dues S J)
    due = (pending_parts scheme J x a).0

    undone : is_done_by scheme J x ≡ false
    undone = (pending_parts scheme J x a).1

    least : IsLeastBy scheme J x
    least = record { due = due; waits = undone; least = λ y d w before. first y (pending_from scheme J y d w) before }

    abbrev visit : Visit
    visit = visit_of S J x

    pub next-grows : IsGrowing S (J ++ visit_of S J x ∷ [])
    next-grows = growing-push scheme (orderly S is) J g x least

    pub next-order : (v : Visit) → Among v J → v.tick ≤ x.tick
    next-order v m = before-tick (due_of v) x (g.ahead v x m due undone)

    pub next-time : x.tick * S.tick_ns < TIME_NS_END
    next-time = due_fits S is J g x due

    pub next-way : IsOnWay S is J g x
    next-way = on_way S is J g x due

    pub next-few : length (visits_to S (pipe_of S x) J) < PACKETS_MAX
    next-few =
        let count = few_visits S is (J ++ visit ∷ []) next-grows (pipe_of S x) in
        let push : length (visits_to S (pipe_of S x) (J ++ visit ∷ [])) ≡ length (visits_to S (pipe_of S x) J) + 1 =
        ap length (visits_to-push_same S (pipe_of S x) J visit refl) ∙ length_push (visits_to S (pipe_of S x) J) (past_visit S visit) in
        let few = few_packets S is in
        omega (arith, count, push, few)

    pub next-count : length J + 1 ≤ hop_count S
    next-count =
        let count : length (J ++ visit ∷ []) ≤ hop_count S = growing_count S is (J ++ visit ∷ []) next-grows in
        omega (arith, count, length_push J visit)

    abbrev rest : List Due
    rest = filter (λ (y : Due). not (y.packet == x.packet)) (pending S J)

    takes : TakesFirst (pending S J) x rest
    takes = record { taken = λ y. (into y, out y); first = λ y m. before y m }
      where
        other : (y : Due) → Among y rest → Among y (pending S J) × (y.packet ≢ x.packet)
        other y m =
            let t = Among-from-filter (λ (z : Due). not (z.packet == x.packet)) y (pending S J) m in
            (t.0, λ same. apart (y.packet == x.packet) refl t.1 same)
          where
            apart : (b : Bool) → (y.packet == x.packet) ≡ b → not b ≡ true → y.packet ≡ x.packet → ⊥
            apart true e f same = (let clash : false ≡ true = f in cc)
            apart false e f same = (let clash : true ≡ false = sym (eq-eqb y.packet x.packet same) ∙ e in cc)

        into : (y : Due) → Among y (pending S J) → (x ≡ y) ⊎ Among y rest
        into y m = go (cases_eq y.packet x.packet)
          where
            go : (y.packet ≡ x.packet) ⊎ (y.packet ≢ x.packet) → (x ≡ y) ⊎ Among y rest
            go (inl same) = inl (pending-one x y a m (sym same))
            go (inr differ) =
                inr (Among-filter (λ (z : Due). not (z.packet == x.packet)) y (pending S J) m
                (ap not (ne_eqb y.packet x.packet differ)))

        out : (y : Due) → (x ≡ y) ⊎ Among y rest → Among y (pending S J)
        out y (inl e) = subst (λ (z : Due). Among z (pending S J)) e a
        out y (inr m) = (other y m).0

        before : (y : Due) → Among y rest → Before x y
        before y m =
            let o = other y m in
            let p = pending_parts scheme J y o.0 in
            least-before scheme (orderly S is) J g x y least p.0 p.1 (λ e. o.1 (ap (λ (z : Due). z.packet) (sym e)))

    -- what is pending after the visit: what follows it, and what was pending of other packets
    pub next-pending : (y : Due) → Among y (pending S (J ++ visit_of S J x ∷ []))
        ↔ ((next_hop S (visit_of S J x) ≡ Some y) ⊎ (Among y (pending S J) × (y.packet ≢ x.packet)))
    next-pending y = (into, out)
      where
        after : List Due
        after = cons_option (next_hop S visit) rest

        adds : AddsNext (next_hop S visit) rest after
        adds z = go (next_hop S visit)
          where
            go : (o : Option Due) → Among z (cons_option o rest) ↔ ((o ≡ Some z) ⊎ Among z rest)
            go None = ((λ m. inr m), λ m. ⊎_elim (λ e. absurd (none e)) (λ k. k) m)
              where
                none : None ≡ Some z → ⊥
                none e = cc
            go (Some w) = (
              (λ m. ⊎_elim (λ e. inl (ap Some e)) (λ k. inr k) m),
              λ m. ⊎_elim (λ e. inl (some e)) (λ k. inr k) m,
            )
              where
                some : Some w ≡ Some z → w ≡ z
                some e = cc

        holds : HoldsPending scheme (J ++ visit ∷ []) after
        holds = held-push scheme (orderly S is) J g (pending S J) x rest (λ z. ((λ m. m), λ m. m)) takes after adds

        other : Among y rest ↔ (Among y (pending S J) × (y.packet ≢ x.packet))
        other = (
          (λ m. let t = (takes.taken y).1 (inr m) in (t, λ same. behind m same)),
          λ m. ⊎_elim (λ e. absurd (m.1 (ap (λ (z : Due). z.packet) (sym e)))) (λ k. k) ((takes.taken y).0 m.0),
        )
          where
            behind : Among y rest → y.packet ≡ x.packet → ⊥
            behind m same =
                let e : x ≡ y = pending-one x y a ((takes.taken y).1 (inr m)) (sym same) in
                first x a (subst (λ (z : Due). Before x z) (sym e) (takes.first y m))

        into : Among y (pending S (J ++ visit ∷ [])) → (next_hop S visit ≡ Some y) ⊎ (Among y (pending S J) × (y.packet ≢ x.packet))
        into m = ⊎_elim (λ e. inl e) (λ k. inr (other.0 k)) ((adds y).0 ((holds y).1 m))

        out : (next_hop S visit ≡ Some y) ⊎ (Among y (pending S J) × (y.packet ≢ x.packet)) → Among y (pending S (J ++ visit ∷ []))
        out m = (holds y).0 ((adds y).1 (⊎_elim (λ e. inl e) (λ k. inr (other.1 k)) m))
