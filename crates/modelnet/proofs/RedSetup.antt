-- The setup of pipes in a row that drop early keeps its conditions.
use Rattle.std.proofs.Common.{◌≡◌, ◌≤◌, ◌<◌, ◌+◌, ◌*◌, ◌-◌, ℕ, List, [], ◌∷◌, length, max, sum_by, All, sym, ◌∙◌, ap, arith}
use Rattle.std.specs.Int.{div_ceil}
use Rattle.std.specs.List.{AllZip}
use Rattle.std.proofs.Math.Nat.{mul-le-mul, mul-le-mul_right}
use Rattle.std.proofs.lemmas.Grind.{div_ceil_times}
use Rattle.std.proofs.lemmas.List.{length-map}
use Rattle.std.proofs.lemmas.List.Elements.{All-cons, All-head, All-map, All-tail}
use Rattle.std.proofs.lemmas.List.Sums.{sum_by-le}
use Rattle.std.proofs.lemmas.Slice.Zip.{AllZip-long}
use Rattle.mn_base.specs.declared.limits.TheConstants.{QUEUE_MAX, TICK_NS_MIN, TICK_NS_MAX, PACKET_BYTES_MAX, PIPE_LATENCY_US_MAX, TX_NS_MAX, TIME_NS_END, ROUTE_DELAY_NS_END}
use Rattle.mn_base.specs.Ranges.{IsTickLength}
use Rattle.mn_base.specs.Units.{transmission, latency_in_ticks}
use Rattle.pcap_io.specs.Capture.{Capture, IsTrace, trace_base}
use Rattle.pipe.proofs.Bounds.{transmission-least}
use Rattle.journal.specs.SetupView.{SetupView}
use Rattle.journal.specs.IsSetup.{IsSetup}
use Rattle.red_queue.specs.declared.params.RedParams.{RedParams}
use Rattle.red_queue.specs.Ranges.{IsRedParams}
use Rattle.red_queue.specs.QueueView.{red_stay}
use Rattle.red_queue.specs.SetupView.{RedSetupView, IsRedSetup}
use Rattle.mn_words.specs.declared.order.RedSpec.{RedSpec}
use Rattle.mn_words.specs.Order.{RedView, IsPipeSpec, IsChainOrder, IsRedSpec, IsRedOrder}
use Rattle.modelnet.specs.Chain.{IsChainSetup}
use Rattle.modelnet.specs.RedRun.{base_order, IsRedPipeOf, red_packet_of, IsRedSetupOf}
use Rattle.modelnet.proofs.ChainSetup.{length-plans}

-- an order for `chain` with the base parameters is within its limits
pub base_is_order : (order : RedView) → IsRedOrder order → IsChainOrder (base_order order)
base_is_order order o =
    let long = length-map order.pipes (λ p. p.base) in
    record {
      tick = o.tick;
      pipes_least = omega (arith, long, o.pipes_least);
      pipes_most = omega (arith, long, o.pipes_most);
      pipes = All-map IsPipeSpec (λ p. p.base) order.pipes (λ k d within. (o.pipes k d within).base);
    }

-- the parameters are within their ranges, as those of the words are
red_ranges : (tick_ns : ℕ) (pipes : List RedSpec) (params : List RedParams) → All IsRedSpec pipes
    → AllZip (IsRedPipeOf tick_ns) pipes params → All IsRedParams params
red_ranges tick_ns [] [] within same = λ k d inside. absurd (omega arith)
red_ranges tick_ns [] (p ∷ params) within same = absurd same
red_ranges tick_ns (pipe ∷ pipes) [] within same = absurd same
red_ranges tick_ns (pipe ∷ pipes) (p ∷ params) within same =
    let spec = All-head IsRedSpec pipe pipes within in
    All-cons IsRedParams p params
    (record {
      shift = rw same.0.shift spec.shift;
      min = rw same.0.min spec.min;
      order = rw (same.0.min, same.0.max) spec.order;
      max = rw same.0.max spec.max;
      early = rw same.0.early spec.early;
    })
    (red_ranges tick_ns pipes params (All-tail IsRedSpec pipe pipes within) same.1)

max-times : (a b t : ℕ) → max a b * t ≤ a * t + b * t
max-times a b t = let sum : max a b ≤ a + b = omega arith in omega (arith, mul-le-mul_right t sum)

-- rounding up adds less than a tick
latency-most : (us tick_ns : ℕ) → us ≤ PIPE_LATENCY_US_MAX → TICK_NS_MIN ≤ tick_ns → tick_ns ≤ TICK_NS_MAX
    → latency_in_ticks us tick_ns * tick_ns ≤ 40950020000000
latency-most us tick_ns few least most =
    let rounded = (div_ceil_times (us * 1000) tick_ns (omega arith)).1 in
    omega (arith, max-times 1 (div_ceil (us * 1000) tick_ns) tick_ns, rounded)

-- how long a pipe may keep a packet, in ns
stay-most : (tick_ns : ℕ) (pipe : RedSpec) (p : RedParams) → IsTickLength tick_ns → IsRedPipeOf tick_ns pipe p
    → red_stay tick_ns p ≤ 2140000000000000
stay-most tick_ns pipe p tick same =
    let base = p.base in
    let usual : base.latency_ticks ≡ latency_in_ticks base.latency_us tick_ns =
    same.base.latency_ticks ∙ ap (λ us. latency_in_ticks us tick_ns) (sym same.base.latency_us) in
    let latency : base.latency_ticks * tick_ns ≤ 40950020000000 = rw usual (latency-most base.latency_us tick_ns base.latency tick.0 tick.1) in
    let queue : base.queue * transmission base.bps PACKET_BYTES_MAX ≤ QUEUE_MAX * TX_NS_MAX =
    mul-le-mul base.places.1 (transmission-least base.bps base.bandwidth.0) in
    omega (arith, latency, queue, tick.1)

stays-most : (tick_ns : ℕ) (pipes : List RedSpec) (params : List RedParams) → IsTickLength tick_ns
    → AllZip (IsRedPipeOf tick_ns) pipes params → All (λ p. red_stay tick_ns p ≤ 2140000000000000) params
stays-most tick_ns [] [] tick same = λ k d inside. absurd (omega arith)
stays-most tick_ns [] (p ∷ params) tick same = absurd same
stays-most tick_ns (pipe ∷ pipes) [] tick same = absurd same
stays-most tick_ns (pipe ∷ pipes) (p ∷ params) tick same =
    All-cons (λ q. red_stay tick_ns q ≤ 2140000000000000) p params (stay-most tick_ns pipe p tick same.0)
    (stays-most tick_ns pipes params tick same.1)

pub is_red_setup : (order : RedView) (trace : Capture) (S : SetupView) (R : RedSetupView) → IsRedOrder order → IsTrace trace
    → IsChainSetup (base_order order) trace S → IsSetup S → IsRedSetupOf order S R → IsRedSetup R
is_red_setup order trace S R o t c s r = record {
  tick = rw r.tick_ns o.tick;
  pipes_least = omega (arith, long, o.pipes_least);
  pipes_most = omega (arith, long, o.pipes_most);
  ranges = red_ranges order.tick_ns order.pipes R.pipes o.pipes r.pipes;
  packets_most = omega (arith, many, t.count);
  lens_most = rw r.packets (All-map (λ p. p.len ≤ PACKET_BYTES_MAX) red_packet_of S.packets s.lens_most);
  entries_fit = rw (r.packets, r.tick_ns)
      (All-map (λ p. p.entry_tick * order.tick_ns < TIME_NS_END - ROUTE_DELAY_NS_END) red_packet_of S.packets
      (rw c.tick_ns at s.entries_fit));
  delays_fit = rw r.tick_ns (omega (arith, sum, mul-le-mul_right 2140000000000000 few));
}
  where
    long : length R.pipes ≡ length order.pipes
    long = AllZip-long (IsRedPipeOf order.tick_ns) order.pipes R.pipes r.pipes

    many : length R.packets ≡ length trace.packets
    many = ap (λ ps. length ps) r.packets ∙ length-map S.packets red_packet_of ∙ ap (λ ps. length ps) c.packets
        ∙ length-plans (trace_base trace) order.tick_ns trace.packets

    few : length R.pipes ≤ 16
    few = omega (arith, long, o.pipes_most)

    sum : sum_by (red_stay order.tick_ns) R.pipes ≤ length R.pipes * 2140000000000000
    sum = sum_by-le (red_stay order.tick_ns) 2140000000000000 R.pipes (stays-most order.tick_ns order.pipes R.pipes o.tick r.pipes)
