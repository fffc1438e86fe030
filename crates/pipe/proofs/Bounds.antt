-- A pipe's kept list stays short and in order, and its last finish stays near.
use Rattle.std.proofs.Common.{◌≡◌, ℕ, ◌+◌, ◌-◌, ◌*◌, ◌^◌, ◌<◌, ◌≤◌, Bool, true, false, cond, nat_lt, max, List, [], ◌∷◌, ◌++◌, length, length-append, append-nil, refl, sym, ap, subst, arith}
use Rattle.std.specs.Int.{div_ceil}
use Rattle.std.specs.List.{All}
use Rattle.std.specs.List.Sorted.{IsNonDecreasing}
use Rattle.std.proofs.Math.Nat.{mul-le-mul_right, lt_of_mul-lt-mul_right}
use Rattle.std.proofs.lemmas.Bool.{ltb-false}
use Rattle.std.proofs.lemmas.Nat.{mul-le}
use Rattle.std.proofs.lemmas.Grind.{div_ceil_times}
use Rattle.std.proofs.lemmas.List.Elements.{All-append, All-filter, All-weaker, All-cons, All-nil}
use Rattle.std.proofs.lemmas.List.Kept.{IsNonDecreasingBy-filter}
use Rattle.std.proofs.lemmas.List.Sorted.{IsNonDecreasingBy-push}
use Rattle.mn_base.specs.Units.{transmission}
use Rattle.pipe.specs.Finishes.{above}
use Rattle.mn_base.specs.declared.params.PipeParams.{PipeParams}
use Rattle.mn_base.specs.declared.limits.TheConstants.{BPS_MIN, PACKET_BYTES_MAX, QUEUE_MAX, TIME_NS_END, TX_NS_MAX}
use Rattle.pipe.specs.PipeView.{PipeView, params_at, greatest_queue, greatest_transmission, IsInBounds}
use Rattle.pipe.proofs.Above.{above-above, all-above, length-above, length-above-push}
use Rattle.pipe.proofs.Params.{greatest-last, greatest-most}
use Rattle.pipe.proofs.Recurrence.{Drops, Passes, stayed, passed}

-- a longer time has no fewer whole steps, rounded up
pub div_ceil-mono : (a b step : ℕ) → 0 < step → a ≤ b → div_ceil a step ≤ div_ceil b step
div_ceil-mono a b step positive less =
    let low = div_ceil_times a step positive in
    let high = div_ceil_times b step positive in
    let up : div_ceil a step * step < (div_ceil b step + 1) * step = omega (arith, low.1, high.0) in
    let below : div_ceil a step < div_ceil b step + 1 = lt_of_mul-lt-mul_right step up in
    omega arith

-- a longest packet takes the longest
pub transmission-mono : (bps len : ℕ) → BPS_MIN ≤ bps → len ≤ PACKET_BYTES_MAX → transmission bps len ≤ transmission bps PACKET_BYTES_MAX
transmission-mono bps len least within = div_ceil-mono (len * 8000000000) (PACKET_BYTES_MAX * 8000000000) bps (omega arith) (omega arith)

-- dropping finishes at or below a later tick
pub bounded-stays : {m : PipeView} {tick : ℕ} {params : PipeParams} {kept : List ℕ} → IsInBounds m → Drops m tick params kept
    → IsInBounds (stayed m tick kept)
bounded-stays {m} {tick} b d = record {
  tick_length = b.tick_length;
  late = subst (All (λ time. tick * m.tick_ns < time)) (sym d.kept_is) (all-above (tick * m.tick_ns) m.kept);
  rising = subst IsNonDecreasing (sym d.kept_is) (IsNonDecreasingBy-filter (λ x. x) (λ time. nat_lt (tick * m.tick_ns) time) m.kept b.rising);
  behind = subst (All (λ time. time ≤ m.last_finish)) (sym d.kept_is) (All-filter (λ time. nat_lt (tick * m.tick_ns) time)
      (λ time. time ≤ m.last_finish) m.kept b.behind);
  few = rw d.kept_is (omega (arith, length-above (tick * m.tick_ns) m.kept, b.few));
  backlog = λ x after.
      let before : m.last_tick * m.tick_ns ≤ tick * m.tick_ns = mul-le-mul_right m.tick_ns d.order in
      rw (d.kept_is, above-above x (tick * m.tick_ns) m.kept after) (b.backlog x (omega arith));
}

-- the packet's own transmission and queue limit are among those of which the greatest is taken
module _ {m : PipeView} {tick len finish : ℕ} {params : PipeParams} {kept pushed : List ℕ}
    (p : Passes m tick len params kept finish pushed) (short : len ≤ PACKET_BYTES_MAX) (room : length kept < params.queue) where
  longest : transmission params.bps len ≤ greatest_transmission m
  longest =
      let least = transmission-mono params.bps len params.bandwidth.0 short in
      let among = greatest-last (λ (q : PipeParams). transmission q.bps PACKET_BYTES_MAX) tick m.first m.changes in
      let same : transmission params.bps PACKET_BYTES_MAX ≡ transmission (params_at m tick).bps PACKET_BYTES_MAX = ap (λ
      (q : PipeParams). transmission q.bps PACKET_BYTES_MAX) p.drops.params_is in
      omega (arith, least, among, same)

  fewer : length kept < greatest_queue m
  fewer =
      let among = greatest-last (λ (q : PipeParams). q.queue) tick m.first m.changes in
      let same : params.queue ≡ (params_at m tick).queue = ap (λ (q : PipeParams). q.queue) p.drops.params_is in
      omega (arith, among, same)

  -- one more finish
  pub bounded-passes : IsInBounds m → IsInBounds (passed m tick finish pushed)
  bounded-passes b = record {
    tick_length = b.tick_length;
    late = subst (All (λ time. tick * m.tick_ns < time)) (sym p.pushed_is)
        (All-append (λ time. tick * m.tick_ns < time) kept (above (tick * m.tick_ns) (finish ∷ [])) stays.late (all-above (tick * m.tick_ns) (finish ∷ [])));
    rising = subst IsNonDecreasing (sym p.pushed_is) (rising (nat_lt (tick * m.tick_ns) finish));
    behind = subst (All (λ time. time ≤ finish)) (sym p.pushed_is)
        (All-append (λ time. time ≤ finish) kept (above (tick * m.tick_ns) (finish ∷ [])) before
        (All-filter (λ time. nat_lt (tick * m.tick_ns) time) (λ time. time ≤ finish) (finish ∷ []) (All-cons
        (λ time. time ≤ finish) finish [] (omega arith) (All-nil (λ time. time ≤ finish)))));
    few = rw p.pushed_is (omega (arith, fewer, length-append kept (above (tick * m.tick_ns) (finish ∷ [])), length-above (tick * m.tick_ns) (finish ∷ [])));
    backlog = λ x after. rw (p.pushed_is, length-above-push x (tick * m.tick_ns) kept finish after) (backlog x after (stays.backlog x after)
        (nat_lt x finish) refl);
  }
    where
      stays : IsInBounds (stayed m tick kept)
      stays = bounded-stays b p.drops

      before : All (λ time. time ≤ finish) kept
      before = All-weaker (λ time. time ≤ m.last_finish) (λ time. time ≤ finish) (λ time early. omega (arith, p.finish_is)) kept stays.behind

      rising : (late : Bool) → IsNonDecreasing (kept ++ cond late (finish ∷ []) [])
      rising true = IsNonDecreasingBy-push (λ x. x) kept finish stays.rising (λ d some. before (length kept - 1) d (omega arith))
      rising false = rw append-nil stays.rising

      backlog : (x : ℕ) → tick * m.tick_ns ≤ x → m.last_finish ≤ x + length (above x kept) * greatest_transmission m → (b : Bool)
          → nat_lt x finish ≡ b
          → finish ≤ x + (length (above x kept) + cond b 1 0) * greatest_transmission m
      backlog x after was true is = omega (arith, longest, p.finish_is)
      backlog x after was false is = omega (arith, ltb-false x finish is)

  -- the finish of a passed packet, by a full queue of longest packets
  pub finish_bound : IsInBounds m → finish ≤ tick * m.tick_ns + greatest_queue m * greatest_transmission m
  finish_bound b =
      let stays = bounded-stays b p.drops in
      let near = stays.backlog (tick * m.tick_ns) (omega arith) in
      let counted = length-above (tick * m.tick_ns) kept in
      let places : (length (above (tick * m.tick_ns) kept) + 1) * greatest_transmission m ≤ greatest_queue m * greatest_transmission m =
      mul-le-mul_right (greatest_transmission m) (omega (arith, counted, fewer)) in
      omega (arith, longest, near, p.finish_is)

-- no packet takes longer than the longest at the least bandwidth
pub transmission-least : (bps : ℕ) → BPS_MIN ≤ bps → transmission bps PACKET_BYTES_MAX ≤ TX_NS_MAX
transmission-least bps least =
    let times = div_ceil_times (PACKET_BYTES_MAX * 8000000000) bps (omega arith) in
    let less : transmission bps PACKET_BYTES_MAX * bps < (TX_NS_MAX + 1) * bps = omega (arith, times.1) in
    let below : transmission bps PACKET_BYTES_MAX < TX_NS_MAX + 1 = lt_of_mul-lt-mul_right bps less in
    omega arith

-- the last finish leaves room for a transmission and a latency
pub finish_fits : {m : PipeView} → IsInBounds m → (now : ℕ) → m.last_tick * m.tick_ns ≤ now
    → m.last_finish ≤ now + QUEUE_MAX * TX_NS_MAX
finish_fits {m} b now after =
    let near = b.backlog now after in
    let queue : greatest_queue m ≤ QUEUE_MAX = greatest-most (λ (p : PipeParams). p.queue) QUEUE_MAX (λ p. p.places.1) m.first m.changes in
    let slowest : greatest_transmission m ≤ TX_NS_MAX =
    greatest-most (λ (p : PipeParams). transmission p.bps PACKET_BYTES_MAX) TX_NS_MAX (λ p. transmission-least p.bps p.bandwidth.0) m.first m.changes in
    let counted : length (above now m.kept) ≤ QUEUE_MAX = omega (arith, length-above now m.kept, b.few) in
    omega (arith, mul-le (length (above now m.kept)) (greatest_transmission m) QUEUE_MAX TX_NS_MAX counted slowest)

-- a start and a transmission add up within 64 bits; `now` is what contracts see of the pipe
pub sum_fits : {m now : PipeView} {tick start tx : ℕ} → IsInBounds m → m ≡ now → now.last_tick ≤ tick → tick * now.tick_ns < TIME_NS_END
    → start ≡ max (tick * m.tick_ns) m.last_finish → tx ≤ TX_NS_MAX → start + tx < 2 ^ 64
sum_fits {m} {now} {tick} b is order time start_is short =
    let late : m.last_tick ≤ tick = subst (λ (v : PipeView). v.last_tick ≤ tick) (sym is) order in
    let soon : tick * m.tick_ns < TIME_NS_END = subst (λ (v : PipeView). tick * v.tick_ns < TIME_NS_END) (sym is) time in
    let near = finish_fits b (tick * m.tick_ns) (mul-le-mul_right m.tick_ns late) in
    omega arith
