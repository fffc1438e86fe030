-- Which packets are decided once one more visit is made: that of the visit, if it ends its way, and no other.
use Rattle.std.proofs.Common.{◌≡◌, ◌⊎◌, inl, inr, ⊎_elim, ℕ, ◌<◌, List, [], ◌∷◌, ◌++◌, length, Some, None, refl, sym, ap, ◌∙◌, subst, arith}
use Rattle.std.specs.Prelude.{◌↔◌}
use Rattle.mn_base.specs.Among.{Among}
use Rattle.mn_base.specs.declared.due.Due.{Due}
use Rattle.journal.specs.declared.setup.PacketPlan.{PacketPlan}
use Rattle.journal.specs.declared.visit.Visit.{Visit}
use Rattle.journal.specs.SetupView.{SetupView, route_of}
use Rattle.journal.specs.IsSetup.{IsSetup}
use Rattle.journal.specs.Hops.{due_of, next_hop}
use Rattle.journal.specs.IsJournal.{scheme_of}
use Rattle.journal.specs.Journal.{journal_of}
use Rattle.journal.specs.Laws.{EndsWay}
use Rattle.journal.specs.Fates.{last_visit}
use Rattle.mn_base.proofs.Members.{Among-append-left, Among-last, Among-push}
use Rattle.pipe.proofs.CanonicalOrder.{before-irreflexive}
use Rattle.pipe.proofs.Origins.{rises-across}
use Rattle.journal.proofs.Count.{hop-within}
use Rattle.journal.proofs.Ends.{end-last}
use Rattle.journal.proofs.Orderly.{IsGrowing, one_packet}
use Rattle.parcel.proofs.Notes.{last-ends}
use Rattle.migrate.specs.Running.{IsDecidedIn}
use Rattle.migrate.proofs.Fronts.{front-among}

module _ {S : SetupView} (is : IsSetup S) (J : List Visit) (v : Visit) (g : IsGrowing S (J ++ v ∷ [])) where
  among : Among v (journal_of S)
  among = front-among S is (J ++ v ∷ []) g v (Among-last v J)

  -- a visit isn't among those before it
  pub visit-new : Among v J → ⊥
  visit-new m = before-irreflexive (due_of v) (rises-across (scheme_of S) J (v ∷ []) v v g.rises m (inl refl))

  -- where something follows, no packet more is decided
  pub decided-still : (z : Due) → next_hop S v ≡ Some z → (q : PacketPlan) → Among q S.packets
      → IsDecidedIn S (J ++ v ∷ []) q ↔ IsDecidedIn S J q
  decided-still z some q m = (
    (λ d. ⊎_elim (λ e. inl e) (λ u. ⊎_elim (λ o. inr (u.0, u.1, o)) (λ n. absurd (ends u.0 u.1 n)) (Among-push u.0 J v u.2)) d),
    λ d. ⊎_elim (λ e. inl e) (λ u. inr (u.0, u.1, Among-append-left u.0 J (v ∷ []) u.2)) d,
  )
    where
      ends : (u : Visit) → last_visit (journal_of S) q.number ≡ Some u → v ≡ u → ⊥
      ends u e same =
          let clash : Some z ≡ None = sym some ∙ ap (next_hop S) same ∙ (last-ends S is q u m e).last in
          cc

  module _ (p : PacketPlan) (planned : Among p S.packets) (number : p.number ≡ v.packet) (none : next_hop S v ≡ None) where
    pub visit-ends : EndsWay S p v
    visit-ends = record { among = among; packet = sym number; last = none }

    is-last : last_visit (journal_of S) p.number ≡ Some v
    is-last = end-last S is p v visit-ends

    -- before, the packet wasn't decided
    pub decided-not : IsDecidedIn S J p → ⊥
    decided-not (inl e) =
        let within : v.hop < length (route_of S v.packet) = hop-within S is (J ++ v ∷ []) g v (Among-last v J) in
        let route : length (route_of S v.packet) ≡ 0 = ap (λ (n : ℕ). length (route_of S n)) (sym number) ∙ ap length e in
        omega (arith, within, route)
    decided-not (inr u) =
        let both : Some u.0 ≡ Some v = sym u.1 ∙ is-last in
        let same : u.0 ≡ v = cc in
        visit-new (subst (λ (w : Visit). Among w J) same u.2)

    pub decided-more : (q : PacketPlan) → Among q S.packets
        → IsDecidedIn S (J ++ v ∷ []) q ↔ (IsDecidedIn S J q ⊎ (q ≡ p))
    decided-more q m = (into, out)
      where
        into : IsDecidedIn S (J ++ v ∷ []) q → IsDecidedIn S J q ⊎ (q ≡ p)
        into (inl e) = inl (inl e)
        into (inr u) = ⊎_elim (λ o. inl (inr (u.0, u.1, o))) (λ n. inr (same u.0 u.1 n)) (Among-push u.0 J v u.2)
          where
            same : (u : Visit) → last_visit (journal_of S) q.number ≡ Some u → v ≡ u → q ≡ p
            same u e n =
                let packet : u.packet ≡ q.number = (last-ends S is q u m e).packet in
                one_packet S is q p m planned (sym packet ∙ ap (λ (w : Visit). w.packet) (sym n) ∙ sym number)

        out : IsDecidedIn S J q ⊎ (q ≡ p) → IsDecidedIn S (J ++ v ∷ []) q
        out (inl (inl e)) = inl e
        out (inl (inr u)) = inr (u.0, u.1, Among-append-left u.0 J (v ∷ []) u.2)
        out (inr same) =
            inr (v, subst (λ (r : PacketPlan). last_visit (journal_of S) r.number ≡ Some v) (sym same) is-last, Among-last v J)
