-- In the journal of a setup each packet goes its way, and its fate is how that ends.
use Rattle.std.proofs.Common.{◌≡◌, ◌≢◌, ◌⊎◌, inl, inr, ℕ, ◌+◌, ◌<◌, List, [], ◌∷◌, length, AllPairs, Some, None, refl, sym, ap, ◌∙◌, subst, arith}
use Rattle.std.specs.Prelude.{slice_index}
use Rattle.std.proofs.lemmas.Bool.{le-ltb, lt-ltb}
use Rattle.mn_base.specs.Among.{Among}
use Rattle.mn_base.proofs.Members.{Among-from-map}
use Rattle.mn_base.specs.declared.due.Due.{Due}
use Rattle.pipe.specs.declared.step.Step.{Step}
use Rattle.pipe.specs.declared.step.Step.TheVariants.{Lost, Full, Pass}
use Rattle.pipe.specs.Scheme.{Rises}
use Rattle.pipe.proofs.CanonicalOrder.{before-irreflexive}
use Rattle.pipe.proofs.Origins.{due_from-first, due_from-visit}
use Rattle.pipe.proofs.Growing.{one_visit}
use Rattle.journal.specs.declared.setup.PacketPlan.{PacketPlan}
use Rattle.journal.specs.declared.visit.Visit.{Visit}
use Rattle.journal.specs.SetupView.{SetupView, route_of}
use Rattle.journal.specs.IsSetup.{IsSetup}
use Rattle.journal.specs.Hops.{due_of, hop_after, next_hop}
use Rattle.journal.specs.IsJournal.{scheme_of, dues}
use Rattle.journal.specs.Journal.{journal_of}
use Rattle.journal.specs.Fates.{fate_of_step, fate_of_visit, fate_of}
use Rattle.journal.proofs.Delays.{IsEntry, IsNext}
use Rattle.journal.proofs.Orderly.{IsGrowing, origin, orderly, first-due, visit-pipe}
use Rattle.journal.proofs.Count.{hop-within, packet-of_visit}
use Rattle.journal.proofs.Meets.{meets, journal-grows}
use Rattle.journal.proofs.Ends.{fates_hold}
use Rattle.journal.proofs.Packets.{packet-known, packet-route}
use Rattle.settle.proofs.Lists.{AllDiffer}
use Rattle.settle.proofs.Walks.{IsWalk}
use Rattle.settle.proofs.WayCounts.{AreWalks}

-- a list that rises has no visit twice
rises-differ : (S : SetupView) (J : List Visit) → Rises (scheme_of S) J → AllDiffer J
rises-differ S [] rises = tt
rises-differ S (v ∷ J) rises = ((λ among. before-irreflexive (due_of v) (rises.0 v among)), rises-differ S J rises.1)

module _ (S : SetupView) (is : IsSetup S) where
  grows : IsGrowing S (journal_of S)
  grows = journal-grows S is

  -- what is due is visited
  visited : (x : Due) → Among x (dues S (journal_of S)) → (v : Visit) × Among v (journal_of S) × (due_of v ≡ x)
  visited x among = Among-from-map due_of x (journal_of S) ((meets S is).complete x among)

  -- the visit that ends the way of a packet of the setup says what becomes of it
  ends : (p : PacketPlan) (v : Visit) → Among v (journal_of S) → v.packet ≡ p.number → next_hop S v ≡ None → fate_of S p ≡ fate_of_visit v
  ends p v among packet last = (fates_hold S is).by_end p v (record { among = among; packet = packet; last = last })

  stopped : (p : PacketPlan) (v : Visit) (step : Step) → Among v (journal_of S) → v.packet ≡ p.number → v.step ≡ step
      → hop_after S v.packet v.hop step ≡ None → fate_of S p ≡ fate_of_step v.pipe v.tick step
  stopped p v step among packet is_step none =
      ends p v among packet (ap (hop_after S v.packet v.hop) is_step ∙ none) ∙ ap (fate_of_step v.pipe v.tick) is_step

  -- the routes of packets of the setup have no pipe twice
  route-distinct : (p : PacketPlan) → Among p S.packets → AllPairs (λ a b. a ≢ b) (route_of S p.number)
  route-distinct p among =
      let has = packet-route S is p (packet-known S is p among) in
      subst (AllPairs (λ a b. a ≢ b)) has.is (is.routes_distinct p.route [] has.within)

  walk : (p : PacketPlan) → Among p S.packets → IsWalk (journal_of S) p.number (route_of S p.number) (fate_of S p)
  walk p member = record {
    differ = rises-differ S (journal_of S) (meets S is).rises;
    distinct = route-distinct p member;
    within = λ v among packet. subst (λ n. v.hop < length (route_of S n)) packet (hop-within S is (journal_of S) grows v among);
    pipe = λ v among packet.
        visit-pipe S (journal_of S) v grows.made among ∙ ap (λ n. slice_index (route_of S n) v.hop) packet;
    one = λ v w a b p q hop. one_visit (scheme_of S) (orderly S is) (journal_of S) grows v w a b (p ∙ sym q) hop;
    first = λ some.
        let x : Due = record { tick = p.entry_tick; packet = p.number; hop = 0 } in
        let v = visited x (due_from-first (scheme_of S) (journal_of S) x (first-due S p x (record { among = member; is = refl; within = some }))) in
        (v.0, v.1, ap (λ (d : Due). d.packet) v.2, ap (λ (d : Due). d.hop) v.2);
    next = next;
    before = before;
    lost = λ v among packet step. stopped p v Lost among packet step refl;
    full = λ v among packet step. stopped p v Full among packet step refl;
    left = λ v exit among packet step last.
        let long : length (route_of S v.packet) ≡ v.hop + 1 = ap (λ n. length (route_of S n)) packet ∙ sym last in
        stopped p v (Pass exit) among packet step (rw (le-ltb (v.hop + 1) (length (route_of S v.packet)) (omega arith)) refl);
  }
    where
      next : (v : Visit) (exit : ℕ) → Among v (journal_of S) → v.packet ≡ p.number → v.step ≡ Pass exit
          → v.hop + 1 < length (route_of S p.number)
          → (w : Visit) × Among w (journal_of S) × (w.packet ≡ p.number) × (w.hop ≡ v.hop + 1)
      next v exit among packet step within =
          let x : Due = record { tick = exit; packet = v.packet; hop = v.hop + 1 } in
          let here : v.hop + 1 < length (route_of S v.packet) = subst (λ n. v.hop + 1 < length (route_of S n)) (sym packet) within in
          let goes : next_hop S v ≡ Some x = ap (hop_after S v.packet v.hop) step ∙ rw (lt-ltb (v.hop + 1) (length (route_of S v.packet)) here) refl in
          let w = visited x (due_from-visit (scheme_of S) (journal_of S) v x among goes) in
          (w.0, w.1, ap (λ (d : Due). d.packet) w.2 ∙ packet, ap (λ (d : Due). d.hop) w.2)

      before : (w : Visit) (hop : ℕ) → Among w (journal_of S) → w.packet ≡ p.number → w.hop ≡ hop + 1
          → (v : Visit) × Among v (journal_of S) × (v.packet ≡ p.number) × (v.hop ≡ hop) × ((exit : ℕ) × (v.step ≡ Pass exit))
      before w hop among packet at = go (origin S (journal_of S) (due_of w) (grows.sound w among))
        where
          go : ((q : PacketPlan) × IsEntry S q (due_of w)) ⊎ ((v : Visit) × Among v (journal_of S) × IsNext S v (due_of w))
              → (v : Visit) × Among v (journal_of S) × (v.packet ≡ p.number) × (v.hop ≡ hop) × ((exit : ℕ) × (v.step ≡ Pass exit))
          go (inl m) = let first : w.hop ≡ 0 = ap (λ (d : Due). d.hop) m.1.is in absurd (omega arith)
          go (inr m) =
              let later : w.hop ≡ m.0.hop + 1 = ap (λ (d : Due). d.hop) m.2.is in
              (m.0, m.1, sym (ap (λ (d : Due). d.packet) m.2.is) ∙ packet, omega arith, (m.2.exit, m.2.passed))

  pub journal-walks : AreWalks S (journal_of S) (fate_of S)
  journal-walks = record {
    rise = is.numbers_rise;
    named = λ v among. packet-of_visit S is (journal_of S) grows v among;
    walk = walk;
  }
