-- The maker of the journal, from one visit to the next.
use Rattle.std.proofs.Common.{◌≡◌, inl, inr, ⊎_elim, ℕ, ◌+◌, ◌*◌, ◌^◌, ◌<◌, ◌≤◌, List, [], ◌∷◌, ◌++◌, length, map, Some, slice_get, slice_index_or, refl, sym, ap, ◌∙◌, subst, arith}
use Rattle.std.proofs.lemmas.List.{length_push}
use Rattle.std.proofs.lemmas.List.Sums.{sum_by-le}
use Rattle.std.proofs.lemmas.Option.{slice_get_within}
use Rattle.mn_base.specs.Among.{Among}
use Rattle.mn_base.specs.declared.limits.TheConstants.{PACKETS_MAX, ROUTE_PIPES_MAX, TIME_NS_END}
use Rattle.mn_base.specs.declared.due.Due.{Due}
use Rattle.pipe.specs.declared.step.Step.{Step}
use Rattle.pipe.specs.Scheme.{TakesFirst, AddsNext}
use Rattle.pipe.specs.declared.due_visits.DueVisit.{DueVisit}
use Rattle.pipe.specs.HeldVisits.{plain, HasNone, PutsNext}
use Rattle.journal.specs.declared.setup.PacketPlan.{PacketPlan}
use Rattle.journal.specs.declared.visit.Visit.{Visit}
use Rattle.journal.specs.SetupView.{SetupView, packet_of, route_of}
use Rattle.journal.specs.IsSetup.{IsSetup}
use Rattle.journal.specs.Hops.{pipe_of, hop_after}
use Rattle.journal.specs.Steps.{past_visit, visits_to, visit_of}
use Rattle.journal.specs.IsJournal.{scheme_of}
use Rattle.journal.specs.Journal.{hop_count, journal_of}
use Rattle.journal.specs.IsPipe.{SetupPipeView, ArePipes}
use Rattle.journal.specs.Held.{IsIndexed, IsHeld, IsMaking, IsToMake}
use Rattle.mn_base.proofs.Members.{Among-map, Among-index}
use Rattle.pipe.proofs.Growing.{growing-nil, growing-push}
use Rattle.pipe.proofs.HeldVisits.{takes-plain, adds-plain}
use Rattle.pipe.proofs.Pending.{held-whole, taken-due, taken-least, taken-order, taken-alone, held-push}
use Rattle.journal.proofs.Orderly.{IsGrowing, orderly}
use Rattle.journal.proofs.Delays.{next_parts}
use Rattle.journal.proofs.Count.{growing_count}
use Rattle.journal.proofs.Meets.{one_journal, meets}
use Rattle.journal.proofs.Packets.{among-get, packet-known, packet-route}
use Rattle.journal.proofs.Times.{due_fits}
use Rattle.journal.proofs.VisitsTo.{visits_to-push_same}
use Rattle.journal.proofs.FewVisits.{few_packets, few_visits}

pub making-nil : (S : SetupView) → IsSetup S → (held : List DueVisit) (pipes : List SetupPipeView) → IsHeld S [] held → ArePipes S [] pipes
    → IsMaking S [] pipes held 0
making-nil S is held pipes h are = record { setup = is; growing = growing-nil (scheme_of S); pipes_are = are; held_is = h; count = refl }

-- the packet and the hop of a due visit
pub record IsPlanned (S : SetupView) (w : DueVisit) (plan : PacketPlan) : Type 0 where
  pub within : w.index < length S.packets
  pub known : packet_of S plan.number ≡ Some plan
  pub number : plan.number ≡ w.due.packet
  pub hop : w.due.hop < length (route_of S plan.number)

pub planned : {S : SetupView} → IsSetup S → {w : DueVisit} → IsIndexed S w → {plan : PacketPlan} → slice_get S.packets w.index ≡ Some plan
    → IsPlanned S w plan
planned {S} is {w} i {plan} read =
    let some : Some i.plan ≡ Some plan = sym i.at ∙ read in
    let same : i.plan ≡ plan = cc in
    let number : plan.number ≡ w.due.packet = ap (λ (p : PacketPlan). p.number) (sym same) ∙ i.number in
    record {
      within = slice_get_within S.packets w.index plan read;
      known = packet-known S is plan (among-get S.packets w.index plan read);
      number = number;
      hop = subst (λ (n : ℕ). w.due.hop < length (route_of S n)) (sym number) i.within;
    }

-- there are not as many visits as numbers
hops-few : (S : SetupView) → IsSetup S → hop_count S ≤ PACKETS_MAX * ROUTE_PIPES_MAX
hops-few S is =
    let few = few_packets S is in
    let sum = sum_by-le (λ (p : PacketPlan). length (route_of S p.number)) ROUTE_PIPES_MAX S.packets short in
    omega (arith, few, sum)
  where
    short : (k : ℕ) (d : PacketPlan) → k < length S.packets → length (route_of S (slice_index_or S.packets k d).number) ≤ ROUTE_PIPES_MAX
    short k d within =
        let p : PacketPlan = slice_index_or S.packets k d in
        let r = packet-route S is p (packet-known S is p (Among-index S.packets k d within)) in
        subst (λ (route : List ℕ). length route ≤ ROUTE_PIPES_MAX) r.is r.short

module _ {S : SetupView} (is : IsSetup S) {J : List Visit} {next : DueVisit} {pipes : List SetupPipeView} {rest : List DueVisit} {made : ℕ}
    (t : IsToMake S J next pipes rest made) where
  g : IsGrowing S J
  g = t.making.growing

  takes : TakesFirst (map plain t.held) next.due (map plain rest)
  takes = takes-plain t.takes

  pub next-indexed : IsIndexed S next
  next-indexed = t.making.held_is.indexed next ((t.takes.taken next).1 (inl refl))

  -- all visits so far are by its tick
  pub next-order : (v : Visit) → Among v J → v.tick ≤ next.due.tick
  next-order = taken-order (scheme_of S) (orderly S is) J g (map plain t.held) next.due (map plain rest) t.making.held_is.pending takes

  pub next-time : next.due.tick * S.tick_ns < TIME_NS_END
  next-time =
      due_fits S is J g next.due
      (taken-due (scheme_of S) (orderly S is) J g (map plain t.held) next.due (map plain rest) t.making.held_is.pending takes)

  -- nothing else of its packet is held
  pub next-alone : HasNone rest next.due.packet
  next-alone w a same =
      taken-alone (scheme_of S) (orderly S is) J g (map plain t.held) next.due (map plain rest) t.making.held_is.pending takes
      w.due (Among-map plain w rest a) same

  -- with it the list still grows
  pub next-grows : IsGrowing S (J ++ visit_of S J next.due ∷ [])
  next-grows =
      growing-push (scheme_of S) (orderly S is) J g next.due
      (taken-least (scheme_of S) (orderly S is) J g (map plain t.held) next.due (map plain rest) t.making.held_is.pending takes)

  -- so its pipe has room for it among the visits that there can be
  pub next-few : (pipe : ℕ) → pipe ≡ pipe_of S next.due → length (visits_to S pipe J) < PACKETS_MAX
  next-few pipe e =
      let v : Visit = visit_of S J next.due in
      let count = few_visits S is (J ++ v ∷ []) next-grows pipe in
      let push : length (visits_to S pipe (J ++ v ∷ [])) ≡ length (visits_to S pipe J) + 1 =
      ap length (visits_to-push_same S pipe J v (sym e)) ∙ length_push (visits_to S pipe J) (past_visit S v) in
      let few = few_packets S is in
      omega (arith, count, push, few)

  -- and there is a number for it
  pub next-counts : made + 1 ≤ hop_count S
  next-counts =
      let count : length (J ++ visit_of S J next.due ∷ []) ≤ hop_count S =
      growing_count S is (J ++ visit_of S J next.due ∷ []) next-grows in
      omega (arith, count, length_push J (visit_of S J next.due), t.making.count)

  pub made-fits : made + 1 < 2 ^ 64
  made-fits = let few = hops-few S is in omega (arith, few, next-counts)

  -- what is held after it
  pub held-next : (step : Step) (new : List DueVisit) → step ≡ (visit_of S J next.due).step
      → PutsNext (hop_after S next.due.packet next.due.hop step) next.index rest new → IsHeld S (J ++ visit_of S J next.due ∷ []) new
  held-next step new e puts = record {
    indexed = λ w a. ⊎_elim (λ b. t.making.held_is.indexed w ((t.takes.taken w).1 (inr b))) (λ c. indexed w c.0 c.1) (puts.comes w a);
    pending =
        held-push (scheme_of S) (orderly S is) J g (map plain t.held) next.due (map plain rest) t.making.held_is.pending takes
        (map plain new)
        (subst (λ (s : Step). AddsNext (hop_after S next.due.packet next.due.hop s) (map plain rest) (map plain new)) e (adds-plain puts));
  }
    where
      indexed : (w : DueVisit) → hop_after S next.due.packet next.due.hop step ≡ Some w.due → w.index ≡ next.index → IsIndexed S w
      indexed w f same =
          let v : Visit = record { tick = 0; packet = next.due.packet; hop = next.due.hop; pipe = 0; step = step } in
          let n = next_parts S v w.due f in
          let packet : w.due.packet ≡ next.due.packet = ap (λ (d : Due). d.packet) n.is in
          let hop : w.due.hop ≡ next.due.hop + 1 = ap (λ (d : Due). d.hop) n.is in
          let long : length (route_of S w.due.packet) ≡ length (route_of S next.due.packet) =
          ap (λ (k : ℕ). length (route_of S k)) packet in
          let within : next.due.hop + 1 < length (route_of S next.due.packet) = n.within in
          record {
            plan = next-indexed.plan;
            at = ap (slice_get S.packets) same ∙ next-indexed.at;
            number = next-indexed.number ∙ sym packet;
            within = omega (arith, hop, long, within);
          }

  -- one visit more is made
  pub making-next : (step : Step) (new : List DueVisit) (after : List SetupPipeView) → step ≡ (visit_of S J next.due).step
      → PutsNext (hop_after S next.due.packet next.due.hop step) next.index rest new → ArePipes S (J ++ visit_of S J next.due ∷ []) after
      → IsMaking S (J ++ visit_of S J next.due ∷ []) after new (made + 1)
  making-next step new after e puts are = record {
    setup = is;
    growing = next-grows;
    pipes_are = are;
    held_is = held-next step new e puts;
    count = ap (λ n. n + 1) t.making.count ∙ sym (length_push J (visit_of S J next.due));
  }

-- where nothing is held, the visits made are the journal
pub making-whole : {S : SetupView} {J : List Visit} {pipes : List SetupPipeView} {made : ℕ} → IsMaking S J pipes [] made
    → J ≡ journal_of S
making-whole {S} {J} m =
    let is = m.setup in
    one_journal S is J (journal_of S) (held-whole (scheme_of S) (orderly S is) J m.growing m.held_is.pending) (meets S is)

pub making-few : {S : SetupView} {J : List Visit} {pipes : List SetupPipeView} {held : List DueVisit} {made : ℕ}
    → IsMaking S J pipes held made → length J ≤ hop_count S
making-few {S} {J} m = growing_count S m.setup J m.growing

pub follows-packet : (S : SetupView) (packet hop : ℕ) (step : Step) (y : Due) → Some y ≡ hop_after S packet hop step → y.packet ≡ packet
follows-packet S packet hop step y e =
    let v : Visit = record { tick = 0; packet = packet; hop = hop; pipe = 0; step = step } in
    ap (λ (d : Due). d.packet) (next_parts S v y (sym e)).is
