-- Every time of a journal fits, and so does every time at which a packet leaves.
use Rattle.std.proofs.Common.{◌≡◌, ℕ, ◌+◌, ◌-◌, ◌*◌, ◌<◌, ◌≤◌, List, [], ◌∷◌, length, drop, slice_index_or, refl, sym, ap, ◌∙◌, subst, arith}
use Rattle.mn_base.specs.Among.{Among}
use Rattle.mn_base.specs.Times.{output_time}
use Rattle.mn_base.specs.declared.limits.TheConstants.{TIME_NS_END, ROUTE_DELAY_NS_END, OUTPUT_NS_END, RECORD_NS_END}
use Rattle.pipe.specs.declared.step.Step.{Step}
use Rattle.pipe.specs.declared.step.Step.TheVariants.{Lost, Full, Pass}
use Rattle.journal.specs.declared.setup.PacketPlan.{PacketPlan}
use Rattle.journal.specs.declared.visit.Visit.{Visit}
use Rattle.journal.specs.declared.fate.Fate.TheVariants.{Left}
use Rattle.journal.specs.SetupView.{SetupView, route_of}
use Rattle.journal.specs.IsSetup.{IsSetup, longest_stay, longest_way}
use Rattle.journal.specs.Hops.{due_of, pipe_of}
use Rattle.journal.specs.Journal.{journal_of}
use Rattle.journal.specs.Fates.{fate_of_step}
use Rattle.journal.specs.Laws.{TimesFit, OutputsFit}
use Rattle.mn_base.proofs.Members.{All-Among}
use Rattle.journal.proofs.Orderly.{IsGrowing}
use Rattle.journal.proofs.Meets.{journal-grows}
use Rattle.journal.proofs.Ends.{ways_end, fates_hold}
use Rattle.journal.proofs.Packets.{packet-known, packet-route}
use Rattle.journal.proofs.Times.{longest_way-drop, exit-stay, on_way, due_fits}

-- a packet whose way ends with an exit passed there
left-passed : (pipe tick exit : ℕ) (s : Step) → fate_of_step pipe tick s ≡ Left exit → s ≡ Pass exit
left-passed pipe tick exit Lost e = cc
left-passed pipe tick exit Full e = cc
left-passed pipe tick exit (Pass x) e = cc

module _ (S : SetupView) (is : IsSetup S) where
  grows : IsGrowing S (journal_of S)
  grows = journal-grows S is

  -- no route keeps a packet longer than the limit
  way-short : (p : PacketPlan) → Among p S.packets → longest_way S (route_of S p.number) < ROUTE_DELAY_NS_END
  way-short p a =
      let r = packet-route S is p (packet-known S is p a) in
      let kept : longest_way S (slice_index_or S.routes p.route []) < ROUTE_DELAY_NS_END = is.delays_fit p.route [] r.within in
      subst (λ (route : List ℕ). longest_way S route < ROUTE_DELAY_NS_END) r.is kept

  -- a packet that passes leaves less than that after it entered
  record IsInTime (exit : ℕ) : Type 0 where
    plan : PacketPlan
    among : Among plan S.packets
    bound : exit * S.tick_ns < plan.entry_tick * S.tick_ns + ROUTE_DELAY_NS_END

  in_time : (v : Visit) (exit : ℕ) → Among v (journal_of S) → v.step ≡ Pass exit → IsInTime exit
  in_time v exit a passed =
      let w = on_way S is (journal_of S) grows (due_of v) (grows.sound v a) in
      let stay : exit * S.tick_ns ≤ v.tick * S.tick_ns + longest_stay S (pipe_of S (due_of v)) =
      exit-stay S is (journal_of S) grows v exit a passed in
      let part = longest_way-drop S (route_of S v.packet) v.hop w.within in
      let bound : v.tick * S.tick_ns + longest_way S (drop v.hop (route_of S v.packet))
      ≤ w.plan.entry_tick * S.tick_ns + longest_way S (route_of S v.packet) = w.bound in
      let short : longest_way S (route_of S v.packet) < ROUTE_DELAY_NS_END =
      subst (λ (n : ℕ). longest_way S (route_of S n) < ROUTE_DELAY_NS_END) w.number (way-short w.plan w.among) in
      record { plan = w.plan; among = w.among; bound = omega (arith, stay, part, bound, short) }

  pub times_fit : TimesFit S
  times_fit = record {
    visits = λ v a. due_fits S is (journal_of S) grows (due_of v) (grows.sound v a);
    exits = exits;
  }
    where
      exits : (v : Visit) (exit : ℕ) → Among v (journal_of S) → v.step ≡ Pass exit → exit * S.tick_ns < TIME_NS_END
      exits v exit a passed =
          let t = in_time v exit a passed in
          let late : exit * S.tick_ns < t.plan.entry_tick * S.tick_ns + ROUTE_DELAY_NS_END = t.bound in
          let entered : t.plan.entry_tick * S.tick_ns < TIME_NS_END - ROUTE_DELAY_NS_END =
          All-Among (λ (q : PacketPlan). q.entry_tick * S.tick_ns < TIME_NS_END - ROUTE_DELAY_NS_END) t.plan S.packets is.entries_fit
          t.among in
          omega (arith, late, entered)

  pub outputs_fit : OutputsFit S
  outputs_fit p tick a left = go (route_of S p.number) refl
    where
      entered : (q : PacketPlan) → Among q S.packets → S.base_ns + q.entry_tick * S.tick_ns < OUTPUT_NS_END
      entered q b = All-Among (λ (r : PacketPlan). S.base_ns + r.entry_tick * S.tick_ns < OUTPUT_NS_END) q S.packets is.times_fit b

      go : (route : List ℕ) → route_of S p.number ≡ route → output_time S.base_ns S.tick_ns tick < RECORD_NS_END
      go [] e =
          let same : Left p.entry_tick ≡ Left tick = sym ((fates_hold S is).at_once p e) ∙ left in
          let ticks : p.entry_tick ≡ tick = cc in
          let time : p.entry_tick * S.tick_ns ≡ tick * S.tick_ns = ap (λ t. t * S.tick_ns) ticks in
          let early : S.base_ns + p.entry_tick * S.tick_ns < OUTPUT_NS_END = entered p a in
          omega (arith, time, early)
      go (q ∷ route) e =
          let long : length (route_of S p.number) ≡ length (q ∷ route) = ap length e in
          let v = ways_end S is p a (omega (arith, long)) in
          let passed : v.0.step ≡ Pass tick =
          left-passed v.0.pipe v.0.tick tick v.0.step (sym ((fates_hold S is).by_end p v.0 v.1) ∙ left) in
          let t = in_time v.0 tick v.1.among passed in
          let late : tick * S.tick_ns < t.plan.entry_tick * S.tick_ns + ROUTE_DELAY_NS_END = t.bound in
          let early : S.base_ns + t.plan.entry_tick * S.tick_ns < OUTPUT_NS_END = entered t.plan t.among in
          omega (arith, late, early)
