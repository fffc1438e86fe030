-- The setup of a chain keeps the conditions of a setup.
use Rattle.std.proofs.Common.{◌≡◌, ◌≢◌, ◌≤◌, ◌<◌, ◌+◌, ◌-◌, ◌*◌, ℕ, zero, suc, List, [], ◌∷◌, length, get_or, map, min, All, AllPairs, sym, ◌∙◌, ap, subst, arith, zero-add, lit≤, lit<}
use Rattle.std.specs.List.{fold, AllZip, enumerate_from, range_with_len}
use Rattle.std.proofs.Math.Nat.{div-mul-le_self}
use Rattle.std.proofs.lemmas.List.{get_or-map, get_or-replicate, length-map, length-replicate}
use Rattle.std.proofs.lemmas.List.Elements.{All-cons}
use Rattle.std.proofs.lemmas.List.FromFn.{length-enumerate_from, get_or-enumerate_from, length-range_with_len, get_or-range_with_len}
use Rattle.std.proofs.lemmas.Slice.Zip.{AllZip-long}
use Rattle.mn_base.specs.declared.limits.TheConstants.{ROUTE_PIPES_MAX, PACKETS_MAX, PACKET_BYTES_MAX, TIME_NS_END, ROUTE_DELAY_NS_END, OUTPUT_NS_END}
use Rattle.mn_base.specs.declared.params.PipeParams.{PipeParams}
use Rattle.mn_base.specs.Units.{latency_in_ticks}
use Rattle.mn_base.specs.Times.{base_of}
use Rattle.pcap_io.specs.declared.packet.Packet.{Packet}
use Rattle.pcap_io.specs.Capture.{Capture, IsTrace, IsRecordTime, trace_base}
use Rattle.journal.specs.declared.setup.PacketPlan.{PacketPlan}
use Rattle.journal.specs.SetupView.{SetupView}
use Rattle.journal.specs.IsSetup.{IsSetup, longest_way}
use Rattle.journal.proofs.UsualDelays.{usual_delays_fit}
use Rattle.mn_words.specs.declared.order.PipeSpec.{PipeSpec}
use Rattle.mn_words.specs.Order.{ChainView, IsChainOrder}
use Rattle.modelnet.specs.Chain.{IsPipeOf, IsChainSetup, plan_of, plans_of}

pub All-one : {X : Type 0} (P : X → Type 0) (x : X) → P x → All P (x ∷ [])
All-one P x here zero d within = here
All-one P x here (suc k) d within = absurd (omega arith)

-- the time base is at most each time

pub fold-min-first : (a : ℕ) (times : List ℕ) → fold min a times ≤ a
fold-min-first a [] = omega arith
fold-min-first a (time ∷ times) = omega (arith, fold-min-first (min a time) times)

pub fold-min-each : (a : ℕ) (times : List ℕ) → All (λ time. fold min a times ≤ time) times
fold-min-each a [] k d within = absurd (omega arith)
fold-min-each a (time ∷ times) zero d within = omega (arith, fold-min-first (min a time) times)
fold-min-each a (time ∷ times) (suc k) d within = fold-min-each (min a time) times k d (omega arith)

pub base_is_least : (times : List ℕ) → All (λ time. base_of times ≤ time) times
base_is_least [] k d within = absurd (omega arith)
base_is_least (time ∷ times) zero d within = fold-min-first time times
base_is_least (time ∷ times) (suc k) d within = fold-min-each time times k d (omega arith)

-- the plans of packets, place by place

abbrev pub no_packet : Packet
no_packet = record { time_ns = 0; original = 0; bytes = [] }

pub length-plans : (base tick_ns : ℕ) (packets : List Packet) → length (plans_of base tick_ns packets) ≡ length packets
length-plans base tick_ns packets = length-map (enumerate_from 0 packets) (plan_of base tick_ns) ∙ length-enumerate_from 0 packets

pub plan-at : (base tick_ns : ℕ) (packets : List Packet) (k : ℕ) (d : PacketPlan) → k < length packets
    → get_or (plans_of base tick_ns packets) k d ≡ plan_of base tick_ns (k, get_or packets k no_packet)
plan-at base tick_ns packets k d within =
    get_or-map (plan_of base tick_ns) (enumerate_from 0 packets) k (k, no_packet) d (rw (length-enumerate_from 0 packets) within)
    ∙ ap (plan_of base tick_ns) (get_or-enumerate_from 0 packets k (k, no_packet) within ∙ ap (λ n. (n, get_or packets k no_packet))
    (zero-add k))

pub All-plans : (P : PacketPlan → Type 0) (base tick_ns : ℕ) (packets : List Packet)
    → ((k : ℕ) → k < length packets → P (plan_of base tick_ns (k, get_or packets k no_packet))) → All P (plans_of base tick_ns packets)
All-plans P base tick_ns packets each k d within =
    let inside : k < length packets = rw (length-plans base tick_ns packets) at within in
    subst P (sym (plan-at base tick_ns packets k d inside)) (each k inside)

pub plans_rise : (base tick_ns : ℕ) (packets : List Packet) → AllPairs (λ p q. p.number < q.number) (plans_of base tick_ns packets)
plans_rise base tick_ns packets i j d before within =
    let inside : j < length packets = rw (length-plans base tick_ns packets) at within in
    rw (plan-at base tick_ns packets i d (omega arith), plan-at base tick_ns packets j d inside) before

-- latencies in ticks are those of the microseconds

pub usual_latencies : (tick_ns : ℕ) (pipes : List PipeSpec) (params : List PipeParams) → AllZip (IsPipeOf tick_ns) pipes params
    → All (λ p. p.latency_ticks ≡ latency_in_ticks p.latency_us tick_ns) params
usual_latencies tick_ns [] [] same = λ k d within. absurd (omega arith)
usual_latencies tick_ns [] (p ∷ params) same = absurd same
usual_latencies tick_ns (pipe ∷ pipes) [] same = absurd same
usual_latencies tick_ns (pipe ∷ pipes) (p ∷ params) same =
    All-cons (λ q. q.latency_ticks ≡ latency_in_ticks q.latency_us tick_ns) p params
    (same.0.latency_ticks ∙ ap (λ us. latency_in_ticks us tick_ns) (sym same.0.latency_us))
    (usual_latencies tick_ns pipes params same.1)

-- the conditions, one by one

pub is_setup : (order : ChainView) (trace : Capture) (S : SetupView) → IsChainOrder order → IsTrace trace
    → All (λ p. IsRecordTime p.time_ns) trace.packets → IsChainSetup order trace S → IsSetup S
is_setup order trace S o t times c = record {
  tick = rw c.tick_ns o.tick;
  link_type = rw c.link_type t.link_type;
  cores_least = rw c.cores (lit≤ tt);
  cores_most = rw c.cores (lit≤ tt);
  pipes_most = omega (arith, long, o.pipes_most);
  one_owner = rw c.owners (length-replicate {A = ℕ} (length order.pipes) 0 ∙ sym long);
  owners = rw (c.owners, c.cores) (λ k d within. rw
      (get_or-replicate (length order.pipes) k 0 d (rw (length-replicate {A = ℕ} (length order.pipes) 0) at within)) (lit< tt));
  routes_most = rw c.routes (All-one (λ route. length route ≤ ROUTE_PIPES_MAX) the_route
      (rw (length-range_with_len 0 (length order.pipes)) (omega (arith, o.pipes_most))));
  routes_named = rw c.routes (All-one (λ route. All (λ pipe. pipe < length S.pipes) route) the_route
      (λ k d within. let inside : k < length order.pipes = rw (length-range_with_len 0 (length order.pipes)) at within in
      rw (get_or-range_with_len 0 (length order.pipes) k d inside) (omega (arith, long, inside))));
  routes_distinct = rw c.routes (All-one (λ route. AllPairs (λ a b. a ≢ b) route) the_route
      (λ i j d before within. let inside : j < length order.pipes = rw (length-range_with_len 0 (length order.pipes)) at within in
      rw (
        get_or-range_with_len 0 (length order.pipes) i d (omega (arith, before, inside)),
        get_or-range_with_len 0
            (length order.pipes) j d inside,
      ) (omega (arith, before))));
  numbers_rise = rw c.packets (plans_rise (trace_base trace) order.tick_ns trace.packets);
  numbers_most = rw c.packets (All-plans (λ p. p.number < PACKETS_MAX) (trace_base trace) order.tick_ns trace.packets
      (λ k within. omega (arith, within, t.count)));
  lens_most = rw c.packets (All-plans (λ p. p.len ≤ PACKET_BYTES_MAX) (trace_base trace) order.tick_ns trace.packets
      (λ k within. (t.packets k no_packet within).original));
  packet_routes = rw (c.packets, c.routes)
      (All-plans (λ p. p.route < 1) (trace_base trace) order.tick_ns trace.packets (λ k within. lit< tt));
  packet_cores = rw (c.packets, c.cores) (All-plans (λ p. p.core < 1) (trace_base trace) order.tick_ns trace.packets
      (λ k within. lit< tt));
  changes_rise = rw c.changes (λ i j d less within. absurd (omega arith));
  changes_named = rw c.changes (λ k d within. absurd (omega arith));
  entries_fit = rw (c.packets, c.tick_ns)
      (All-plans (λ p. p.entry_tick * order.tick_ns < TIME_NS_END - ROUTE_DELAY_NS_END) (trace_base trace) order.tick_ns trace.packets
      (λ k within. let time = times k no_packet within in omega
      (arith, time, div-mul-le_self ((get_or trace.packets k no_packet).time_ns - trace_base trace) order.tick_ns)));
  times_fit = rw (c.packets, c.tick_ns, c.base_ns)
      (All-plans (λ p. trace_base trace + p.entry_tick * order.tick_ns < OUTPUT_NS_END)
      (trace_base trace) order.tick_ns trace.packets
      (λ k within. let time = times k no_packet within in let early = base_before k within in
      omega (arith, time, early, div-mul-le_self ((get_or trace.packets k no_packet).time_ns - trace_base trace) order.tick_ns)));
  delays_fit = rw c.routes (All-one (λ route. longest_way S route < ROUTE_DELAY_NS_END) the_route way);
}
  where
    the_route : List ℕ
    the_route = range_with_len 0 (length order.pipes)

    long : length S.pipes ≡ length order.pipes
    long = AllZip-long (IsPipeOf order.tick_ns) order.pipes S.pipes c.pipes

    base_before : (k : ℕ) → k < length trace.packets → trace_base trace ≤ (get_or trace.packets k no_packet).time_ns
    base_before k within =
        subst (λ time. trace_base trace ≤ time) (get_or-map (λ p. p.time_ns) trace.packets k no_packet 0 within)
        (base_is_least (map (λ p. p.time_ns) trace.packets) k 0 (rw (length-map trace.packets (λ p. p.time_ns)) within))

    way : longest_way S the_route < ROUTE_DELAY_NS_END
    way =
        usual_delays_fit S the_route (rw c.tick_ns o.tick)
        (rw c.tick_ns (usual_latencies order.tick_ns order.pipes S.pipes c.pipes))
        (rw c.changes (λ k d within. absurd (omega arith)))
        (rw (length-range_with_len 0 (length order.pipes)) (omega (arith, o.pipes_most)))
