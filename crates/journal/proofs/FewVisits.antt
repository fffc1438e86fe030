-- A packet visits a pipe at most once, so a pipe has no more visits than the setup has packets.
use Rattle.std.proofs.Common.{◌≡◌, ◌≢◌, ◌⊎◌, inl, inr, ℕ, zero, suc, ◌+◌, ◌<◌, ◌≤◌, ◌==◌, Bool, true, false, cond, List, [], ◌∷◌, length, filter, AllPairs, slice_index, slice_index_or, refl, sym, ap, ◌∙◌, subst, arith, eqb-true}
use Rattle.std.proofs.lemmas.Bool.{cases_order}
use Rattle.std.proofs.lemmas.List.{length-map}
use Rattle.std.proofs.lemmas.List.Sums.{sum_by-le}
use Rattle.mn_base.specs.Among.{Among}
use Rattle.mn_base.specs.declared.limits.TheConstants.{PACKETS_MAX}
use Rattle.mn_base.specs.Canonical.{Before}
use Rattle.pipe.specs.Scheme.{Rises}
use Rattle.journal.specs.declared.setup.PacketPlan.{PacketPlan}
use Rattle.journal.specs.declared.visit.Visit.{Visit}
use Rattle.journal.specs.SetupView.{SetupView, route_of}
use Rattle.journal.specs.IsSetup.{IsSetup}
use Rattle.journal.specs.Hops.{due_of}
use Rattle.journal.specs.Steps.{past_visit, visits_to}
use Rattle.journal.specs.IsJournal.{scheme_of}
use Rattle.mn_base.proofs.Members.{Among-from-filter, All-Among, index_of}
use Rattle.pipe.proofs.CanonicalOrder.{before-irreflexive}
use Rattle.pipe.proofs.Growing.{one_visit}
use Rattle.journal.proofs.Orderly.{IsGrowing, orderly, visit-pipe}
use Rattle.journal.proofs.Packets.{packet-known, packet-route}
use Rattle.journal.proofs.Count.{of_packet, length-by_packet, hop-within, packet-of_visit}

-- numbers that rise and are below a limit are no more than the limit
rising-few : (n limit : ℕ) (ps : List PacketPlan) → AllPairs (λ p q. p.number < q.number) ps
    → ((p : PacketPlan) → Among p ps → (n ≤ p.number) × (p.number < limit)) → n ≤ limit → n + length ps ≤ limit
rising-few n limit [] rise all low = omega arith
rising-few n limit (p ∷ ps) rise all low =
    let here = all p (inl refl) in
    let least : n ≤ p.number = here.0 in
    let below : p.number < limit = here.1 in
    let rest : p.number + 1 + length ps ≤ limit =
    rising-few (p.number + 1) limit ps (λ i j d less within. rise (suc i) (suc j) d (omega arith) (omega arith)) later (omega arith) in
    omega (arith, least, rest)
  where
    later : (q : PacketPlan) → Among q ps → (p.number + 1 ≤ q.number) × (q.number < limit)
    later q a =
        let s = index_of q ps a in
        let within : s.index < length ps = s.within in
        let less : p.number < (slice_index_or ps s.index q).number = rise zero (suc s.index) q (omega arith) (omega arith) in
        let at : (slice_index_or ps s.index q).number ≡ q.number = ap (λ (r : PacketPlan). r.number) (s.here q) in
        (omega (arith, less, at), (all q (inr a)).1)

pub few_packets : (S : SetupView) → IsSetup S → length S.packets ≤ PACKETS_MAX
few_packets S is =
    let few = rising-few 0 PACKETS_MAX S.packets is.numbers_rise
    (λ p a. (omega arith, All-Among (λ (q : PacketPlan). q.number < PACKETS_MAX) p S.packets is.numbers_most a)) (omega arith) in
    omega (arith, few)

module _ (S : SetupView) where
  -- a part of a rising list rises
  rises-filter : (test : Visit → Bool) (J : List Visit) → Rises (scheme_of S) J → Rises (scheme_of S) (filter test J)
  rises-filter test [] r = tt
  rises-filter test (v ∷ J) r = go (test v) (rises-filter test J r.1)
    where
      go : (b : Bool) → Rises (scheme_of S) (filter test J) → Rises (scheme_of S) (cond b (v ∷ filter test J) (filter test J))
      go false rest = rest
      go true rest = (λ w a. r.0 w (Among-from-filter test w J a).0, rest)

  -- a rising list whose members are all one has one member at most
  rises-one : (J : List Visit) → Rises (scheme_of S) J → ((u v : Visit) → Among u J → Among v J → u ≡ v) → length J ≤ 1
  rises-one [] r same = omega arith
  rises-one (v ∷ []) r same = omega arith
  rises-one (v ∷ w ∷ J) r same =
      let e : v ≡ w = same v w (inl refl) (inr (inl refl)) in
      absurd (before-irreflexive (due_of w) (subst (λ (u : Visit). Before (due_of u) (due_of w)) e (r.0 w (inl refl))))

module _ (S : SetupView) (is : IsSetup S) (J : List Visit) (g : IsGrowing S J) where
  -- the pipes of a packet's route differ
  route-distinct : (v : Visit) → Among v J → AllPairs (λ a b. a ≢ b) (route_of S v.packet)
  route-distinct v a =
      let p = packet-of_visit S is J g v a in
      let r = packet-route S is p.0 (packet-known S is p.0 p.1) in
      subst (λ (route : List ℕ). AllPairs (λ a b. a ≢ b) route) (r.is ∙ ap (route_of S) p.2) (is.routes_distinct p.0.route [] r.within)

  -- so visits of one packet to one pipe are one
  one_visit-to_pipe : (u v : Visit) → Among u J → Among v J → u.packet ≡ v.packet → u.pipe ≡ v.pipe → u ≡ v
  one_visit-to_pipe u v a b p q = go (cases_order u.hop v.hop)
    where
      within_u : u.hop < length (route_of S v.packet)
      within_u = subst (λ (n : ℕ). u.hop < length (route_of S n)) p (hop-within S is J g u a)

      pipes : slice_index (route_of S v.packet) u.hop ≡ slice_index (route_of S v.packet) v.hop
      pipes =
          ap (λ (n : ℕ). slice_index (route_of S n) u.hop) (sym p) ∙ sym (visit-pipe S J u g.made a) ∙ q ∙ visit-pipe S J v g.made b

      go : (u.hop ≡ v.hop) ⊎ ((u.hop < v.hop) ⊎ (v.hop < u.hop)) → u ≡ v
      go (inl e) = one_visit (scheme_of S) (orderly S is) J g u v a b p e
      go (inr (inl l)) = absurd (route-distinct v b u.hop v.hop 0 l (hop-within S is J g v b) pipes)
      go (inr (inr l)) = absurd (route-distinct v b v.hop u.hop 0 l within_u (sym pipes))

  -- a pipe has at most as many visits as the setup has packets
  pub few_visits : (pipe : ℕ) → length (visits_to S pipe J) ≤ length S.packets
  few_visits pipe =
      let own : List Visit = filter (λ (v : Visit). v.pipe == pipe) J in
      let by = length-by_packet S.packets own
      (λ v a. packet-of_visit S is J g v (Among-from-filter (λ (w : Visit). w.pipe == pipe) v J a).0) in
      let ones =
      sum_by-le (λ (p : PacketPlan). length (of_packet p.number own)) 1 S.packets
      (λ k d within. one (slice_index_or S.packets k d).number) in
      omega (arith, by, ones, length-map own (past_visit S))
    where
      one : (n : ℕ) → length (of_packet n (filter (λ (v : Visit). v.pipe == pipe) J)) ≤ 1
      one n =
          rises-one S (of_packet n (filter (λ (v : Visit). v.pipe == pipe) J))
          (rises-filter S (λ (v : Visit). v.packet == n) (filter (λ (v : Visit). v.pipe == pipe) J)
          (rises-filter S (λ (v : Visit). v.pipe == pipe) J g.rises))
          same
        where
          of_both : (u : Visit) → Among u (of_packet n (filter (λ (v : Visit). v.pipe == pipe) J))
              → Among u J × (u.pipe ≡ pipe) × (u.packet ≡ n)
          of_both u a =
              let s = Among-from-filter (λ (v : Visit). v.packet == n) u (filter (λ (v : Visit). v.pipe == pipe) J) a in
              let t = Among-from-filter (λ (v : Visit). v.pipe == pipe) u J s.0 in
              (t.0, eqb-true _ _ t.1, eqb-true _ _ s.1)

          same : (u v : Visit) → Among u (of_packet n (filter (λ (w : Visit). w.pipe == pipe) J))
              → Among v (of_packet n (filter (λ (w : Visit). w.pipe == pipe) J)) → u ≡ v
          same u v a b =
              let s = of_both u a in
              let t = of_both v b in
              one_visit-to_pipe u v s.0 t.0 (s.2 ∙ sym t.2) (s.1 ∙ sym t.1)
