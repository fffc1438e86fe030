-- How late a packet can be on its way: no later than it entered, plus the longest that its route may keep it.
use Rattle.std.proofs.Common.{◌≡◌, inl, inr, ℕ, zero, suc, ◌+◌, ◌-◌, ◌*◌, ◌<◌, ◌≤◌, List, [], ◌∷◌, length, drop, Option, Some, None, get_or, slice_index_or, filter, refl, sym, ap, ◌∙◌, subst, arith, ◌==◌}
use Rattle.std.specs.Option.{option_map_or}
use Rattle.std.proofs.Math.Nat.{mul-le-mul_right}
use Rattle.std.proofs.lemmas.List.{drop_more}
use Rattle.std.proofs.lemmas.List.Sums.{sum_by-cons}
use Rattle.mn_base.specs.Among.{Among}
use Rattle.mn_base.specs.Units.{transmission}
use Rattle.pipe.specs.declared.step.Step.TheVariants.{Pass}
use Rattle.mn_base.specs.declared.due.Due.{Due}
use Rattle.pipe.specs.Finishes.{PastVisit}
use Rattle.pipe.specs.Scheme.{Rises}
use Rattle.pipe.proofs.Bounds.{transmission-mono}
use Rattle.pipe.proofs.Params.{greatest-last}
use Rattle.mn_base.specs.declared.params.PipeParams.{PipeParams}
use Rattle.mn_base.specs.declared.limits.TheConstants.{PACKET_BYTES_MAX, TIME_NS_END, ROUTE_DELAY_NS_END}
use Rattle.journal.specs.declared.setup.PacketPlan.{PacketPlan}
use Rattle.journal.specs.declared.visit.Visit.{Visit}
use Rattle.journal.specs.SetupView.{SetupView, packet_of, route_of, len_of, params_of, first_params, changes_of}
use Rattle.journal.specs.IsSetup.{IsSetup, greatest_of, longest_transmission, longest_stay, longest_way}
use Rattle.journal.specs.Hops.{due_of, pipe_of}
use Rattle.journal.specs.Steps.{past_visit, visits_to, is_lost, step_of}
use Rattle.journal.specs.IsJournal.{scheme_of, dues}
use Rattle.mn_base.proofs.Members.{SplitAt, split_at, Among-find, Among-from-map, Among-from-filter, All-Among}
use Rattle.pipe.proofs.CanonicalOrder.{before-tick}
use Rattle.pipe.proofs.Origins.{rises-across}
use Rattle.journal.proofs.Delays.{IsNext}
use Rattle.journal.proofs.Orderly.{IsGrowing, Origin, origin, tick-pos}
use Rattle.journal.proofs.Packets.{packet-known, packet-route}
use Rattle.journal.proofs.Stays.{IsUsual, pass-stay}

-- no packet is longer than the limit
pub len_of-short : (S : SetupView) → IsSetup S → (number : ℕ) → len_of S number ≤ PACKET_BYTES_MAX
len_of-short S is number = go (packet_of S number) refl
  where
    go : (o : Option PacketPlan) → packet_of S number ≡ o → option_map_or (λ p. p.len) o 0 ≤ PACKET_BYTES_MAX
    go None found = omega arith
    go (Some p) found =
        All-Among (λ (q : PacketPlan). q.len ≤ PACKET_BYTES_MAX) p S.packets is.lens_most
        (Among-find (λ (q : PacketPlan). q.number == number) p S.packets found).0

-- the pipe at a hop keeps the packet for its part of the rest of the way
pub longest_way-drop : (S : SetupView) (route : List ℕ) (hop : ℕ) → hop < length route
    → longest_way S (drop hop route) ≡ longest_stay S (get_or route hop 0) + longest_way S (drop (hop + 1) route)
longest_way-drop S route hop within =
    ap (longest_way S) (drop_more route hop 0 within) ∙ sum_by-cons (longest_stay S) (get_or route hop 0) (drop (hop + 1) route)

-- no parameters of a pipe, at any tick, are above the greatest
below_greatest : (value : PipeParams → ℕ) (S : SetupView) (pipe tick : ℕ) → value (params_of S pipe tick) ≤ greatest_of value S pipe
below_greatest value S pipe tick = greatest-last value tick (first_params S pipe) (changes_of S pipe)

-- no packet transmits longer, at any tick
transmission-below : (S : SetupView) (pipe tick len : ℕ) → len ≤ PACKET_BYTES_MAX
    → transmission (params_of S pipe tick).bps len ≤ greatest_of longest_transmission S pipe
transmission-below S pipe tick len short =
    let longest = below_greatest longest_transmission S pipe tick in
    omega (arith, longest, transmission-mono (params_of S pipe tick).bps len (params_of S pipe tick).bandwidth.0 short)

step-stay : (S : SetupView) (pipe : ℕ) (x : Due) (h : List PastVisit) (exit : ℕ) → 0 < S.tick_ns
    → ((v : PastVisit) → Among v h → IsUsual (params_of S pipe) S.tick_ns (x.tick * S.tick_ns) (greatest_of longest_transmission S pipe) v)
    → len_of S x.packet ≤ PACKET_BYTES_MAX
    → step_of S pipe x h ≡ Pass exit → exit * S.tick_ns ≤ x.tick * S.tick_ns + longest_stay S pipe
unfolding step_of
step-stay S pipe x h exit positive usual short passes =
    let stay = pass-stay (params_of S pipe) S.tick_ns (greatest_of (λ p. p.latency_ticks) S pipe) (greatest_of (λ p. p.queue) S pipe)
    (greatest_of longest_transmission S pipe) h x.tick (len_of S x.packet) (is_lost S pipe x h) exit positive
    (below_greatest (λ p. p.latency_ticks) S pipe x.tick) (below_greatest (λ p. p.queue) S pipe x.tick) usual
    (transmission-below S pipe x.tick (len_of S x.packet) short) passes in
    omega (arith, stay)

module _ (S : SetupView) (is : IsSetup S) (J : List Visit) (g : IsGrowing S J) where
  -- a packet that passes leaves no later than the pipe may keep it
  pub exit-stay : (v : Visit) (exit : ℕ) → Among v J → v.step ≡ Pass exit
      → exit * S.tick_ns ≤ v.tick * S.tick_ns + longest_stay S (pipe_of S (due_of v))
  exit-stay v exit among passed =
      step-stay S pipe (due_of v) (visits_to S pipe s.front) exit (tick-pos S is) usual (len_of-short S is v.packet) (sym step ∙ passed)
    where
      pipe : ℕ
      pipe = pipe_of S (due_of v)

      s : SplitAt v J
      s = split_at v J among

      step : v.step ≡ step_of S pipe (due_of v) (visits_to S pipe s.front)
      step = ap (λ (u : Visit). u.step) (g.made s.front s.rest v s.is)

      usual : (a : PastVisit) → Among a (visits_to S pipe s.front)
          → IsUsual (params_of S pipe) S.tick_ns (v.tick * S.tick_ns) (greatest_of longest_transmission S pipe) a
      usual a m =
          let u = Among-from-map (past_visit S) a (filter (λ (w : Visit). w.pipe == pipe) s.front) m in
          let early = (Among-from-filter (λ (w : Visit). w.pipe == pipe) u.0 s.front u.1).0 in
          let before =
          before-tick (due_of u.0) (due_of v)
          (rises-across (scheme_of S) s.front (v ∷ s.rest) u.0 v (subst (Rises (scheme_of S)) s.is g.rises) early (inl refl)) in
          let one : IsUsual (params_of S pipe) S.tick_ns (v.tick * S.tick_ns) (greatest_of longest_transmission S pipe) (past_visit S u.0) =
          record {
            by = mul-le-mul_right S.tick_ns before;
            short = transmission-below S pipe u.0.tick (len_of S u.0.packet) (len_of-short S is u.0.packet);
          } in
          subst (IsUsual (params_of S pipe) S.tick_ns (v.tick * S.tick_ns) (greatest_of longest_transmission S pipe)) u.2 one

  -- and so does the visit that follows on its way
  pub next-stay : (v : Visit) (x : Due) → Among v J → IsNext S v x
      → x.tick * S.tick_ns ≤ v.tick * S.tick_ns + longest_stay S (pipe_of S (due_of v))
  next-stay v x a n =
      let stay : n.exit * S.tick_ns ≤ v.tick * S.tick_ns + longest_stay S (pipe_of S (due_of v)) = exit-stay v n.exit a n.passed in
      let tick : x.tick * S.tick_ns ≡ n.exit * S.tick_ns = ap (λ (d : Due). d.tick * S.tick_ns) n.is in
      omega (arith, stay, tick)

  -- a due visit, with its packet: as late as that entered, plus what its route may keep it so far
  pub record IsOnWay (x : Due) : Type 0 where
    pub plan : PacketPlan
    pub among : Among plan S.packets
    pub number : plan.number ≡ x.packet
    pub within : x.hop < length (route_of S x.packet)
    pub bound :
        x.tick * S.tick_ns + longest_way S (drop x.hop (route_of S x.packet))
        ≤ plan.entry_tick * S.tick_ns + longest_way S (route_of S x.packet)

  on_way-by_hop : (h : ℕ) (x : Due) → Among x (dues S J) → x.hop ≡ h → IsOnWay x
  on_way-by_hop zero x a e = go (origin S J x a)
    where
      go : Origin S J x → IsOnWay x
      go (inl m) =
          subst IsOnWay (sym m.1.is) (record { plan = m.0; among = m.1.among; number = refl; within = m.1.within; bound = omega arith })
      go (inr m) = let i : x.hop ≡ m.0.hop + 1 = ap (λ (d : Due). d.hop) m.2.is in absurd (omega arith)
  on_way-by_hop (suc h) x a e = go (origin S J x a) (on_way-by_hop h)
    where
      go : Origin S J x → ((y : Due) → Among y (dues S J) → y.hop ≡ h → IsOnWay y) → IsOnWay x
      go (inl m) rest = let i : x.hop ≡ 0 = ap (λ (d : Due). d.hop) m.1.is in absurd (omega arith)
      go (inr m) rest =
          let n = m.2 in
          let i : x.hop ≡ m.0.hop + 1 = ap (λ (d : Due). d.hop) n.is in
          let before = rest (due_of m.0) (g.sound m.0 m.1) (omega arith) in
          let stay : x.tick * S.tick_ns ≤ m.0.tick * S.tick_ns + longest_stay S (pipe_of S (due_of m.0)) = next-stay m.0 x m.1 n in
          let part = longest_way-drop S (route_of S m.0.packet) m.0.hop before.within in
          let was : m.0.tick * S.tick_ns + longest_way S (drop m.0.hop (route_of S m.0.packet))
          ≤ before.plan.entry_tick * S.tick_ns + longest_way S (route_of S m.0.packet) = before.bound in
          let tick : x.tick ≡ n.exit = ap (λ (d : Due). d.tick) n.is in
          let late : n.exit * S.tick_ns ≡ x.tick * S.tick_ns = ap (λ t. t * S.tick_ns) (sym tick) in
          subst IsOnWay (sym n.is) (record {
            plan = before.plan;
            among = before.among;
            number = before.number;
            within = n.within;
            bound = omega (arith, stay, part, was, late);
          })

  pub on_way : (x : Due) → Among x (dues S J) → IsOnWay x
  on_way x a = on_way-by_hop x.hop x a refl

  -- every time since the base fits
  pub due_fits : (x : Due) → Among x (dues S J) → x.tick * S.tick_ns < TIME_NS_END
  due_fits x a =
      let w = on_way x a in
      let p : PacketPlan = w.plan in
      let entered : p.entry_tick * S.tick_ns < TIME_NS_END - ROUTE_DELAY_NS_END =
      All-Among (λ (q : PacketPlan). q.entry_tick * S.tick_ns < TIME_NS_END - ROUTE_DELAY_NS_END) p S.packets is.entries_fit w.among in
      let r = packet-route S is p (packet-known S is p w.among) in
      let kept : longest_way S (slice_index_or S.routes p.route []) < ROUTE_DELAY_NS_END = is.delays_fit p.route [] r.within in
      let route : longest_way S (slice_index_or S.routes p.route []) ≡ longest_way S (route_of S x.packet) =
      ap (longest_way S) (r.is ∙ ap (route_of S) w.number) in
      let bound : x.tick * S.tick_ns + longest_way S (drop x.hop (route_of S x.packet))
      ≤ p.entry_tick * S.tick_ns + longest_way S (route_of S x.packet) = w.bound in
      omega (arith, entered, kept, route, bound)
