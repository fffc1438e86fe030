-- How the ways of packets end, and what becomes of them.
use Rattle.std.proofs.Common.{◌≡◌, ◌⊎◌, inl, inr, ℕ, zero, suc, ◌+◌, ◌<◌, ◌≤◌, ◌==◌, true, false, List, [], ◌∷◌, ◌++◌, length, reverse, find, Option, Some, None, refl, sym, ap, ◌∙◌, subst, arith, eqb-true, eq-eqb}
use Rattle.std.proofs.lemmas.Bool.{cases_order, false_from_ne_true}
use Rattle.std.proofs.lemmas.List.{append_assoc}
use Rattle.std.specs.Option.{option_map_or}
use Rattle.mn_base.specs.Among.{Among}
use Rattle.mn_base.specs.declared.due.Due.{Due}
use Rattle.mn_base.specs.Canonical.{Before}
use Rattle.pipe.specs.Scheme.{Rises}
use Rattle.journal.specs.declared.setup.PacketPlan.{PacketPlan}
use Rattle.journal.specs.declared.visit.Visit.{Visit}
use Rattle.journal.specs.declared.fate.Fate.TheVariants.{Left}
use Rattle.journal.specs.SetupView.{SetupView, route_of}
use Rattle.journal.specs.IsSetup.{IsSetup}
use Rattle.journal.specs.Hops.{due_of, next_hop}
use Rattle.journal.specs.IsJournal.{scheme_of, dues}
use Rattle.journal.specs.Journal.{journal_of}
use Rattle.journal.specs.Fates.{fate_of_visit, last_visit}
use Rattle.journal.specs.Laws.{EndsWay, WaysEnd, FatesHold, VisitsRise, HopsDiffer, HopsAreLater, HopsWait}
use Rattle.mn_base.proofs.Members.{find-none, find-behind, reverse-split, Among-reverse, Among-from-map, SplitAt, split_at, Among-append-right}
use Rattle.pipe.proofs.Origins.{rises-across, rises-pairs, due_from-first, due_from-visit}
use Rattle.pipe.proofs.Growing.{one_visit, earlier, apart, follows}
use Rattle.journal.proofs.Delays.{next_parts}
use Rattle.journal.proofs.Orderly.{IsGrowing, orderly, tick-pos, first-due, next-latency}
use Rattle.journal.proofs.Count.{hop-rises, hop-within}
use Rattle.journal.proofs.Meets.{meets, journal-grows}

module _ (S : SetupView) (is : IsSetup S) where
  grows : IsGrowing S (journal_of S)
  grows = journal-grows S is

  pub visits_rise : VisitsRise S
  visits_rise = rises-pairs (scheme_of S) (journal_of S) (meets S is).rises

  pub hops_differ : HopsDiffer S
  hops_differ v w h k p e = one_visit (scheme_of S) (orderly S is) (journal_of S) grows v w h k p e

  pub hops_are_later : HopsAreLater S
  hops_are_later v w h k p l = apart (scheme_of S) (orderly S is) (journal_of S) grows v (due_of w) h (grows.sound w k) p l

  pub hops_wait : HopsWait S
  hops_wait v w h k p l =
      let e : next_hop S v ≡ Some (due_of w) = follows (scheme_of S) (orderly S is) (journal_of S) grows v w h k p l in
      next-latency S (journal_of S) v (due_of w) (tick-pos S is) grows.made h (next_parts S v (due_of w) e)

  -- what is due is visited
  visited : (x : Due) → Among x (dues S (journal_of S)) → (v : Visit) × Among v (journal_of S) × (due_of v ≡ x)
  visited x a = Among-from-map due_of x (journal_of S) ((meets S is).complete x a)

  -- after the visit that ends a packet's way no hop is visited
  none_behind : (v w : Visit) → Among v (journal_of S) → next_hop S v ≡ None → Among w (journal_of S) → w.packet ≡ v.packet → v.hop < w.hop
      → ⊥
  none_behind v w a last b p l =
      let e = earlier (scheme_of S) (orderly S is) (journal_of S) grows (v.hop + 1) w b (omega arith) in
      let next : next_hop S v ≡ Some (due_of e.visit) =
      follows (scheme_of S) (orderly S is) (journal_of S) grows v e.visit a e.among (sym p ∙ sym e.packet) e.at in
      let clash : None ≡ Some (due_of e.visit) = sym last ∙ next in
      cc

  pub one_end : (p : PacketPlan) (v w : Visit) → EndsWay S p v → EndsWay S p w → w ≡ v
  one_end p v w e f = go (cases_order v.hop w.hop)
    where
      same : w.packet ≡ v.packet
      same = f.packet ∙ sym e.packet

      go : (v.hop ≡ w.hop) ⊎ ((v.hop < w.hop) ⊎ (w.hop < v.hop)) → w ≡ v
      go (inl h) = one_visit (scheme_of S) (orderly S is) (journal_of S) grows w v f.among e.among same (sym h)
      go (inr (inl l)) = absurd (none_behind v w e.among e.last f.among same l)
      go (inr (inr l)) = absurd (none_behind w v f.among f.last e.among (sym same) l)

  -- from each visit on the packet's way comes to an end
  end_from : (n : ℕ) (p : PacketPlan) (v : Visit) → Among v (journal_of S) → v.packet ≡ p.number → length (route_of S v.packet) ≤ n + v.hop
      → (w : Visit) × EndsWay S p w
  end_from zero p v a q fuel =
      let within : v.hop < length (route_of S v.packet) = hop-within S is (journal_of S) grows v a in
      absurd (omega (arith, within, fuel))
  end_from (suc n) p v a q fuel = go (next_hop S v) refl (end_from n p)
    where
      go : (o : Option Due) → next_hop S v ≡ o
          → ((u : Visit) → Among u (journal_of S) → u.packet ≡ p.number → length (route_of S u.packet) ≤ n + u.hop → (w : Visit) × EndsWay S p w)
          → (w : Visit) × EndsWay S p w
      go None e rest = (v, record { among = a; packet = q; last = e })
      go (Some x) e rest =
          let i = next_parts S v x e in
          let u = visited x (due_from-visit (scheme_of S) (journal_of S) v x a e) in
          let packet : u.0.packet ≡ v.packet = ap (λ (d : Due). d.packet) u.2 ∙ ap (λ (d : Due). d.packet) i.is in
          let hop : u.0.hop ≡ v.hop + 1 = ap (λ (d : Due). d.hop) u.2 ∙ ap (λ (d : Due). d.hop) i.is in
          let long : length (route_of S u.0.packet) ≡ length (route_of S v.packet) = ap (λ (m : ℕ). length (route_of S m)) packet in
          rest u.0 u.1 (packet ∙ q) (omega (arith, hop, long, fuel))

  pub ways_end : WaysEnd S
  ways_end p a within =
      let first : Due = record { tick = p.entry_tick; packet = p.number; hop = 0 } in
      let v =
      visited first (due_from-first (scheme_of S) (journal_of S) first (first-due S p first (record { among = a; is = refl; within = within }))) in
      let e = end_from (length (route_of S v.0.packet)) p v.0 v.1 (ap (λ (d : Due). d.packet) v.2) (omega arith) in
      (e.0, e.1, λ w f. one_end p e.0 w e.1 f)

  -- the visit that ends a packet's way is its last
  pub end-last : (p : PacketPlan) (v : Visit) → EndsWay S p v → last_visit (journal_of S) p.number ≡ Some v
  end-last p v e =
      let s = split_at v (journal_of S) e.among in
      ap (λ (l : List Visit). find (λ (u : Visit). u.packet == p.number) (reverse l)) s.is
      ∙ ap (λ (l : List Visit). find (λ (u : Visit). u.packet == p.number) l) (reverse-split s.front v s.rest)
      ∙ find-behind (λ (u : Visit). u.packet == p.number) (reverse s.rest) v (reverse s.front) (others s) (eq-eqb _ _ e.packet)
    where
      others : (s : SplitAt v (journal_of S)) → (u : Visit) → Among u (reverse s.rest) → (u.packet == p.number) ≡ false
      others s u h = false_from_ne_true (u.packet == p.number) clash
        where
          behind : Among u s.rest
          behind = Among-reverse u s.rest h

          here : Among u (journal_of S)
          here = subst (Among u) (sym s.is) (Among-append-right u s.front (v ∷ s.rest) (inr behind))

          rises : Rises (scheme_of S) (s.front ++ v ∷ [] ++ s.rest)
          rises = subst (Rises (scheme_of S)) (s.is ∙ sym (append_assoc s.front (v ∷ []) s.rest)) (meets S is).rises

          before : Before (due_of v) (due_of u)
          before = rises-across (scheme_of S) (s.front ++ v ∷ []) s.rest v u rises (Among-append-right v s.front (v ∷ []) (inl refl)) behind

          clash : (u.packet == p.number) ≡ true → ⊥
          clash t =
              let same : u.packet ≡ v.packet = eqb-true _ _ t ∙ sym e.packet in
              none_behind v u e.among e.last here same (hop-rises S is (journal_of S) grows v u e.among here before (sym same))

  no_visit : (p : PacketPlan) → route_of S p.number ≡ [] → last_visit (journal_of S) p.number ≡ None
  no_visit p e = find-none (λ (u : Visit). u.packet == p.number) (reverse (journal_of S)) none
    where
      none : (u : Visit) → Among u (reverse (journal_of S)) → (u.packet == p.number) ≡ false
      none u h = false_from_ne_true (u.packet == p.number) clash
        where
          clash : (u.packet == p.number) ≡ true → ⊥
          clash t =
              let within : u.hop < length (route_of S u.packet) =
              hop-within S is (journal_of S) grows u (Among-reverse u (journal_of S) h) in
              let long : length (route_of S u.packet) ≡ 0 = ap (λ (n : ℕ). length (route_of S n)) (eqb-true _ _ t) ∙ ap length e in
              omega (arith, within, long)

  pub fates_hold : FatesHold S
  fates_hold = record {
    at_once = λ p e. ap (λ (o : Option Visit). option_map_or fate_of_visit o (Left p.entry_tick)) (no_visit p e);
    by_end = λ p v e. ap (λ (o : Option Visit). option_map_or fate_of_visit o (Left p.entry_tick)) (end-last p v e);
  }
