-- The setup of a plan keeps the conditions of a setup.
use Rattle.std.proofs.Common.{◌≡◌, ◌≢◌, ◌≤◌, ◌<◌, ◌+◌, ◌-◌, ◌*◌, inl, inr, ℕ, suc, true, List, [], ◌∷◌, length, map, All, AllPairs, Result, Ok, sym, ◌∙◌, ap, subst, arith}
use Rattle.std.specs.List.{AllZip, list_any}
use Rattle.std.proofs.Math.Nat.{div-mul-le_self}
use Rattle.std.proofs.lemmas.List.{length-map}
use Rattle.std.proofs.lemmas.List.Elements.{All-cons, All-nil, All-head, All-tail}
use Rattle.std.proofs.lemmas.List.Kept.{AllPairs-cons}
use Rattle.mn_base.specs.Among.{Among}
use Rattle.mn_base.proofs.Members.{All-Among}
use Rattle.mn_base.specs.declared.limits.TheConstants.{ROUTE_PIPES_MAX, PACKETS_MAX, PACKET_BYTES_MAX, TIME_NS_END, ROUTE_DELAY_NS_END, OUTPUT_NS_END}
use Rattle.mn_base.specs.declared.params.PipeParams.{PipeParams}
use Rattle.mn_base.specs.declared.causes.Unbound.{Unbound}
use Rattle.mn_base.specs.Units.{latency_in_ticks}
use Rattle.topo.specs.TopologyView.{TopologyView}
use Rattle.pcap_io.specs.declared.packet.Packet.{Packet}
use Rattle.mn_base.specs.Times.{entry_tick_of}
use Rattle.pcap_io.specs.Capture.{Capture, IsTrace, IsPacket, IsRecordTime, trace_base}
use Rattle.routes.proofs.NoNodeTwice.{arcs_named, no_arc_twice}
use Rattle.distill.specs.declared.pipes.DistilledPipe.{DistilledPipe}
use Rattle.distill.specs.Distilled.{DistilledView, KeepsPipeLimits}
use Rattle.changes.specs.declared.split.Change.{Change}
use Rattle.changes.specs.Changes.{PrecedesChange}
use Rattle.ownership.specs.Directory.{DirectoryView}
use Rattle.journal.specs.declared.setup.PacketPlan.{PacketPlan}
use Rattle.journal.specs.declared.setup.PipeChange.{PipeChange}
use Rattle.journal.specs.SetupView.{SetupView}
use Rattle.journal.specs.IsSetup.{IsSetup, IsChangeBefore, longest_way}
use Rattle.journal.proofs.UsualDelays.{usual_delays_fit}
use Rattle.plan.specs.declared.options.Options.{Options}
use Rattle.plan.specs.Options.{AreOptions}
use Rattle.distill.specs.Latency.{arc_of_pipe, arcs_of_pipes}
use Rattle.plan.specs.Binding.{Binding, IsRouted, IsBinding}
use Rattle.plan.specs.Plans.{has_ends, bounds, uses_of, plan_of_bound}
use Rattle.plan.specs.Grounds.{AreFit}
use Rattle.plan.specs.Setups.{IsChangeTo, IsSetupOf, AreBindings}
use Rattle.plan.proofs.FirstUses.{each_used, place_below}
use Rattle.plan.proofs.Bindings.{ends_below, beside, uses_routed, bound_among, packet_among}
use Rattle.plan.proofs.BoundPackets.{All-bound, bound_rise}

-- ---- changes
changes_usual : (tick_ns : ℕ) (said : List Change) (changes : List PipeChange) → AllZip (IsChangeTo tick_ns) said changes
    → All (λ c. c.params.latency_ticks ≡ latency_in_ticks c.params.latency_us tick_ns) changes
changes_usual tick_ns [] [] same = All-nil (λ c. c.params.latency_ticks ≡ latency_in_ticks c.params.latency_us tick_ns)
changes_usual tick_ns [] (c ∷ changes) same = absurd same
changes_usual tick_ns (s ∷ said) [] same = absurd same
changes_usual tick_ns (s ∷ said) (c ∷ changes) same =
    All-cons (λ d. d.params.latency_ticks ≡ latency_in_ticks d.params.latency_us tick_ns) c changes
    (same.0.params.latency_ticks ∙ ap (λ us. latency_in_ticks us tick_ns) (sym same.0.params.latency_us))
    (changes_usual tick_ns said changes same.1)

changes_named : (tick_ns pipes : ℕ) (said : List Change) (changes : List PipeChange) → AllZip (IsChangeTo tick_ns) said changes
    → All (λ c. c.pipe < pipes) said → All (λ c. c.pipe < pipes) changes
changes_named tick_ns pipes [] [] same named = All-nil (λ c. c.pipe < pipes)
changes_named tick_ns pipes [] (c ∷ changes) same named = absurd same
changes_named tick_ns pipes (s ∷ said) [] same named = absurd same
changes_named tick_ns pipes (s ∷ said) (c ∷ changes) same named =
    All-cons (λ d. d.pipe < pipes) c changes
    (subst (λ n. n < pipes) (sym same.0.pipe) (All-head (λ (d : Change). d.pipe < pipes) s said named))
    (changes_named tick_ns pipes said changes same.1 (All-tail (λ (d : Change). d.pipe < pipes) s said named))

-- a change stays after another one
behind : (tick_ns : ℕ) (s : Change) (c : PipeChange) (said : List Change) (changes : List PipeChange) → IsChangeTo tick_ns s c
    → AllZip (IsChangeTo tick_ns) said changes → All (PrecedesChange s) said → All (IsChangeBefore c) changes
behind tick_ns s c [] [] is same later = All-nil (IsChangeBefore c)
behind tick_ns s c [] (d ∷ changes) is same later = absurd same
behind tick_ns s c (t ∷ said) [] is same later = absurd same
behind tick_ns s c (t ∷ said) (d ∷ changes) is same later =
    All-cons (IsChangeBefore c) d changes (go (All-head (PrecedesChange s) t said later))
    (behind tick_ns s c said changes is same.1 (All-tail (PrecedesChange s) t said later))
  where
    go : PrecedesChange s t → IsChangeBefore c d
    go (inl less) = inl (let a = is.tick in let b = same.0.tick in omega (arith, less, a, b))
    go (inr tie) =
        inr (is.tick ∙ tie.0 ∙ sym same.0.tick, (let a = is.pipe in let b = same.0.pipe in let low = tie.1 in omega (arith, low, a, b)))

changes_rise : (tick_ns : ℕ) (said : List Change) (changes : List PipeChange) → AllZip (IsChangeTo tick_ns) said changes
    → AllPairs PrecedesChange said → AllPairs IsChangeBefore changes
changes_rise tick_ns [] [] same rise = λ i j d before within. absurd (omega arith)
changes_rise tick_ns [] (c ∷ changes) same rise = absurd same
changes_rise tick_ns (s ∷ said) [] same rise = absurd same
changes_rise tick_ns (s ∷ said) (c ∷ changes) same rise =
    AllPairs-cons IsChangeBefore c changes
    (behind tick_ns s c said changes same.0 same.1 (λ k d within. rise 0 (suc k) d (omega arith) (omega (arith, within))))
    (changes_rise tick_ns said changes same.1 (λ i j d before within. rise (suc i) (suc j) d (omega (arith, before)) (omega (arith, within))))

-- what is known of what a setup is made from
pub record ArePlanned (t : TopologyView) (d : DistilledView) (directory : DirectoryView) (said : List Change) (trace : Capture)
    (options : Options) : Type 0 where
  pub options_are : AreOptions options
  pub trace_is : IsTrace trace
  pub times : All (λ p. IsRecordTime p.time_ns) trace.packets
  pub base : All (λ p. trace_base trace ≤ p.time_ns) trace.packets
  pub limits : KeepsPipeLimits d
  pub nodes : d.nodes ≡ length t.nodes
  pub usual : All (λ pipe. pipe.params.latency_ticks ≡ latency_in_ticks pipe.params.latency_us options.tick_ns) d.pipes
  pub fit : AreFit d options.cores directory said

module _ (t : TopologyView) (d : DistilledView) (directory : DirectoryView) (said : List Change) (trace : Capture) (options : Options)
    (bindings : List (Result Binding Unbound)) (S : SetupView) (are : ArePlanned t d directory said trace options)
    (bound : AreBindings t d trace bindings) (is : IsSetupOf options d directory said trace bindings S) where
  arcs_long : length (arcs_of_pipes d.pipes) ≡ length d.pipes
  arcs_long = length-map d.pipes arc_of_pipe

  long : length S.pipes ≡ length d.pipes
  long = ap length is.pipes ∙ length-map d.pipes (λ (pipe : DistilledPipe). pipe.params)

  routed : All (λ b. IsRouted (arcs_of_pipes d.pipes) b.source b.destination (Ok b.route)) (uses_of bindings)
  routed = uses_routed t.nodes (arcs_of_pipes d.pipes) trace.link_type (λ (p : Packet). p.bytes) trace.packets bindings bound

  -- what holds of the route of each two nodes holds of the setup's routes
  All-routes : (P : List ℕ → Type 0) → ((s e : ℕ) (route : List ℕ) → IsRouted (arcs_of_pipes d.pipes) s e (Ok route) → P route) → All P S.routes
  All-routes P each = subst (All P) (sym is.routes_are) (go (uses_of bindings) routed)
    where
      go : (bs : List Binding) → All (λ b. IsRouted (arcs_of_pipes d.pipes) b.source b.destination (Ok b.route)) bs → All P (map (λ b. b.route) bs)
      go [] all = All-nil P
      go (b ∷ bs) all =
          All-cons P b.route (map (λ c. c.route) bs)
          (each b.source b.destination b.route (All-head (λ c. IsRouted (arcs_of_pipes d.pipes) c.source c.destination (Ok c.route)) b bs all))
          (go bs (All-tail (λ c. IsRouted (arcs_of_pipes d.pipes) c.source c.destination (Ok c.route)) b bs all))

  -- what holds of each packet beside its binding holds of the setup's packets
  All-packets : (P : PacketPlan → Type 0)
      → ((number : ℕ) (p : Packet) (b : Binding) → number < length trace.packets → Among p trace.packets → Among b (bounds bindings)
      → IsBinding t.nodes (arcs_of_pipes d.pipes) trace.link_type p.bytes (Ok b)
      → P (plan_of_bound (trace_base trace) options.tick_ns directory.entries (uses_of bindings) number p b))
      → All P S.packets
  All-packets P each =
      subst (All P) (sym is.packets_are)
      (All-bound (trace_base trace) options.tick_ns directory.entries (uses_of bindings) P 0 trace.packets bindings
      (λ number p b low high there.
      each number p b (omega (arith, high)) (packet_among trace.packets bindings p (Ok b) there) (bound_among trace.packets bindings p b there)
      (beside (λ (q : Packet) (binding : Result Binding Unbound). IsBinding t.nodes (arcs_of_pipes d.pipes) trace.link_type q.bytes binding)
      trace.packets bindings p (Ok b) bound there)))

  -- a packet enters whole ticks after the base, at most at its time
  entered : (p : Packet) → Among p trace.packets
      → trace_base trace + entry_tick_of (trace_base trace) options.tick_ns p.time_ns * options.tick_ns ≤ p.time_ns
  entered p there =
      let early : trace_base trace ≤ p.time_ns = All-Among (λ (q : Packet). trace_base trace ≤ q.time_ns) p trace.packets are.base there in
      omega (arith, early, div-mul-le_self (p.time_ns - trace_base trace) options.tick_ns)

  time_of : (p : Packet) → Among p trace.packets → p.time_ns < OUTPUT_NS_END
  time_of p there = All-Among (λ (q : Packet). IsRecordTime q.time_ns) p trace.packets are.times there

  source_below : (p : Packet) (b : Binding) → IsBinding t.nodes (arcs_of_pipes d.pipes) trace.link_type p.bytes (Ok b)
      → b.source < length directory.entries
  source_below p b binding =
      let low = (ends_below t.nodes trace.link_type p.bytes b.source b.destination binding.0).0 in
      let nodes = are.nodes in
      let entries = are.fit.entries_len in
      omega (arith, low, nodes, entries)

  pub plan_is_setup : IsSetup S
  plan_is_setup = record {
    tick = rw is.tick_ns are.options_are.tick;
    link_type = rw is.link_type are.trace_is.link_type;
    cores_least = rw is.cores are.options_are.some_core;
    cores_most = rw is.cores are.options_are.few_cores;
    pipes_most = (let few = are.limits.few_pipes in omega (arith, few, long));
    one_owner = ap length is.owners ∙ are.fit.owners_len ∙ sym long;
    owners = rw (is.owners, is.cores) are.fit.owners;
    routes_most = All-routes (λ route. length route ≤ ROUTE_PIPES_MAX) (λ s e route r. r.1);
    routes_named =
        All-routes (λ route. All (λ pipe. pipe < length S.pipes) route)
        (λ s e route r.
        subst (λ n. All (λ pipe. pipe < n) route) (arcs_long ∙ sym long) (arcs_named (arcs_of_pipes d.pipes) s e route r.0.walk));
    routes_distinct = All-routes (λ route. AllPairs (λ a b. a ≢ b) route) (λ s e route r. no_arc_twice (arcs_of_pipes d.pipes) e s route r.0);
    numbers_rise =
        subst (AllPairs (λ p q. p.number < q.number)) (sym is.packets_are)
        (bound_rise (trace_base trace) options.tick_ns directory.entries (uses_of bindings) 0 trace.packets bindings);
    numbers_most =
        All-packets (λ p. p.number < PACKETS_MAX)
        (λ number p b low there used binding. (let few = are.trace_is.count in omega (arith, low, few)));
    lens_most =
        All-packets (λ p. p.len ≤ PACKET_BYTES_MAX)
        (λ number p b low there used binding. (All-Among IsPacket p trace.packets are.trace_is.packets there).original);
    packet_routes =
        All-packets (λ p. p.route < length S.routes)
        (λ number p b low there used binding.
        let below = place_below (has_ends b) (uses_of bindings)
        (All-Among (λ (c : Binding). list_any (has_ends c) (uses_of bindings) ≡ true) b (bounds bindings) (each_used (bounds bindings)) used) in
        let count : length S.routes ≡ length (uses_of bindings) = ap length is.routes_are ∙ length-map (uses_of bindings) (λ (c : Binding). c.route) in
        omega (arith, below, count));
    packet_cores =
        All-packets (λ p. p.core < S.cores)
        (λ number p b low there used binding.
        rw is.cores (are.fit.entries b.source 0 (source_below p b binding)));
    changes_rise = changes_rise options.tick_ns said S.changes is.changes_are are.fit.rise;
    changes_named =
        subst (λ n. All (λ c. c.pipe < n) S.changes) (sym long) (changes_named options.tick_ns (length d.pipes) said S.changes is.changes_are are.fit.named);
    entries_fit =
        rw is.tick_ns (All-packets (λ p. p.entry_tick * options.tick_ns < TIME_NS_END - ROUTE_DELAY_NS_END)
        (λ number p b low there used binding. omega (arith, entered p there, time_of p there)));
    times_fit =
        rw (is.tick_ns, is.base_ns) (All-packets (λ p. trace_base trace + p.entry_tick * options.tick_ns < OUTPUT_NS_END)
        (λ number p b low there used binding. omega (arith, entered p there, time_of p there)));
    delays_fit =
        All-routes (λ route. longest_way S route < ROUTE_DELAY_NS_END)
        (λ s e route r.
        usual_delays_fit S route (rw is.tick_ns are.options_are.tick)
        (subst (λ n. All (λ p. p.latency_ticks ≡ latency_in_ticks p.latency_us n) S.pipes) (sym is.tick_ns)
        (subst (All (λ p. p.latency_ticks ≡ latency_in_ticks p.latency_us options.tick_ns)) (sym is.pipes) (usual_params d.pipes are.usual)))
        (subst (λ n. All (λ c. c.params.latency_ticks ≡ latency_in_ticks c.params.latency_us n) S.changes) (sym is.tick_ns)
        (changes_usual options.tick_ns said S.changes is.changes_are))
        r.1);
  }
    where
      usual_params : (pipes : List DistilledPipe)
          → All (λ pipe. pipe.params.latency_ticks ≡ latency_in_ticks pipe.params.latency_us options.tick_ns) pipes
          → All (λ p. p.latency_ticks ≡ latency_in_ticks p.latency_us options.tick_ns) (map (λ pipe. pipe.params) pipes)
      usual_params [] all = All-nil (λ p. p.latency_ticks ≡ latency_in_ticks p.latency_us options.tick_ns)
      usual_params (pipe ∷ pipes) all =
          All-cons (λ (p : PipeParams). p.latency_ticks ≡ latency_in_ticks p.latency_us options.tick_ns) pipe.params (map (λ q. q.params) pipes)
          (All-head (λ (q : DistilledPipe). q.params.latency_ticks ≡ latency_in_ticks q.params.latency_us options.tick_ns) pipe pipes all)
          (usual_params pipes (All-tail (λ (q : DistilledPipe). q.params.latency_ticks ≡ latency_in_ticks q.params.latency_us options.tick_ns) pipe pipes all))
