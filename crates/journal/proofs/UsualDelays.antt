-- Pipes whose latency in ticks is that of their microseconds keep a packet shortly enough: a route of them stays within a setup's limit.
use Rattle.std.proofs.Common.{◌≡◌, ◌⊎◌, ℕ, zero, suc, ◌+◌, ◌*◌, ◌<◌, ◌≤◌, Bool, true, false, cond, ◌==◌, max, List, [], ◌∷◌, map, filter, get_or, All, arith, inl, inr}
use Rattle.std.specs.Prelude.{unwrap_or, slice_get}
use Rattle.std.specs.Int.{div_ceil}
use Rattle.std.proofs.Math.Nat.{mul-le-mul, mul-le-mul_left, mul-le-mul_right}
use Rattle.std.proofs.lemmas.Bool.{cases_lt}
use Rattle.std.proofs.lemmas.Grind.{div_ceil_times}
use Rattle.std.proofs.lemmas.List.Elements.{All-head, All-tail}
use Rattle.std.proofs.lemmas.List.Sums.{sum_by-le}
use Rattle.mn_base.specs.declared.limits.TheConstants.{BPS_MIN, QUEUE_MAX, TICK_NS_MIN, TICK_NS_MAX, PACKET_BYTES_MAX, PIPE_LATENCY_US_MAX, TX_NS_MAX}
use Rattle.mn_base.specs.declared.params.PipeParams.{PipeParams}
use Rattle.mn_base.specs.Units.{transmission, latency_in_ticks}
use Rattle.pipe.specs.Params.{greatest}
use Rattle.pipe.proofs.Params.{greatest-most}
use Rattle.journal.specs.declared.setup.PipeChange.{PipeChange}
use Rattle.journal.specs.SetupView.{SetupView, no_params, first_params, changes_of}
use Rattle.journal.specs.IsSetup.{greatest_of, longest_transmission, longest_stay}
use Rattle.journal.specs.Laws.{UsualDelaysFit}

-- the least bandwidth takes the longest
transmission-most : (bps : ℕ) → BPS_MIN ≤ bps → transmission bps PACKET_BYTES_MAX ≤ TX_NS_MAX
transmission-most bps least =
    let rounded = (div_ceil_times (PACKET_BYTES_MAX * 8000000000) bps (omega arith)).1 in
    let whole = mul-le-mul_left TX_NS_MAX least in
    elim (cases_lt TX_NS_MAX (transmission bps PACKET_BYTES_MAX)) [
      | inl more ↦ let beyond : TX_NS_MAX + 1 ≤ transmission bps PACKET_BYTES_MAX = omega arith in
          absurd (omega (arith, rounded, whole, mul-le-mul_right bps beyond))
      | inr within ↦ within
    ]

max-times : (a b t : ℕ) → max a b * t ≤ a * t + b * t
max-times a b t = let sum : max a b ≤ a + b = omega arith in omega (arith, mul-le-mul_right t sum)

-- rounding up adds less than a tick
latency-most : (us tick_ns : ℕ) → us ≤ PIPE_LATENCY_US_MAX → TICK_NS_MIN ≤ tick_ns → tick_ns ≤ TICK_NS_MAX
    → latency_in_ticks us tick_ns * tick_ns ≤ 40950020000000
latency-most us tick_ns few least most =
    let rounded = (div_ceil_times (us * 1000) tick_ns (omega arith)).1 in
    omega (arith, max-times 1 (div_ceil (us * 1000) tick_ns) tick_ns, rounded)

-- a pipe's latency in ticks is that of its microseconds
abbrev IsUsualLatency : ℕ → PipeParams → Type 0
IsUsualLatency tick_ns p = p.latency_ticks ≡ latency_in_ticks p.latency_us tick_ns

latency-usual : (tick_ns : ℕ) (p : PipeParams) → TICK_NS_MIN ≤ tick_ns → tick_ns ≤ TICK_NS_MAX
    → IsUsualLatency tick_ns p → p.latency_ticks * tick_ns ≤ 40950020000000
latency-usual tick_ns p least most same = rw same (latency-most p.latency_us tick_ns p.latency least most)

-- the latency of each change is at most that many ns
abbrev AreShort : ℕ → ℕ → List (ℕ × PipeParams) → Type 0
AreShort tick_ns most changes = All (λ (c : ℕ × PipeParams). c.1.latency_ticks * tick_ns ≤ most) changes

short-cons : (tick_ns most : ℕ) (c : ℕ × PipeParams) (changes : List (ℕ × PipeParams)) → c.1.latency_ticks * tick_ns ≤ most
    → AreShort tick_ns most changes → AreShort tick_ns most (c ∷ changes)
short-cons tick_ns most c changes here rest zero d within = here
short-cons tick_ns most c changes here rest (suc k) d within = rest k d (omega arith)

-- what bounds the latency of all bounds the greatest
greatest-times : (tick_ns most : ℕ) (first : PipeParams) (changes : List (ℕ × PipeParams)) → first.latency_ticks * tick_ns ≤ most
    → AreShort tick_ns most changes → greatest (λ p. p.latency_ticks) first changes * tick_ns ≤ most
greatest-times tick_ns most first [] low all = low
greatest-times tick_ns most first (c ∷ changes) low all =
    let head : c.1.latency_ticks * tick_ns ≤ most = All-head (λ (d : ℕ × PipeParams). d.1.latency_ticks * tick_ns ≤ most) c changes all in
    let rest : greatest (λ p. p.latency_ticks) c.1 changes * tick_ns ≤ most =
    greatest-times tick_ns most c.1 changes head (All-tail (λ (d : ℕ × PipeParams). d.1.latency_ticks * tick_ns ≤ most) c changes all) in
    go (cases_lt first.latency_ticks (greatest (λ p. p.latency_ticks) c.1 changes)) rest
  where
    go : (first.latency_ticks < greatest (λ p. p.latency_ticks) c.1 changes) ⊎ (greatest (λ p. p.latency_ticks) c.1 changes ≤ first.latency_ticks)
        → greatest (λ p. p.latency_ticks) c.1 changes * tick_ns ≤ most
        → max first.latency_ticks (greatest (λ p. p.latency_ticks) c.1 changes) * tick_ns ≤ most
    go (inl less) rest =
        let same : max first.latency_ticks (greatest (λ p. p.latency_ticks) c.1 changes) ≡ greatest (λ p. p.latency_ticks) c.1 changes =
        omega arith in
        rw same rest
    go (inr more) rest =
        let same : max first.latency_ticks (greatest (λ p. p.latency_ticks) c.1 changes) ≡ first.latency_ticks = omega arith in
        rw same low

module _ (S : SetupView) (least : TICK_NS_MIN ≤ S.tick_ns) (most : S.tick_ns ≤ TICK_NS_MAX) where
  -- the first parameters, also where there is no such pipe
  first-most : (pipes : List PipeParams) → All (IsUsualLatency S.tick_ns) pipes → (k : ℕ)
      → (unwrap_or (slice_get pipes k) no_params).latency_ticks * S.tick_ns ≤ 40950020000000
  first-most [] usual k = omega arith
  first-most (p ∷ pipes) usual zero = latency-usual S.tick_ns p least most (usual zero p (omega arith))
  first-most (p ∷ pipes) usual (suc k) = first-most pipes (λ i d within. usual (suc i) d (omega arith)) k

  -- the changes of one pipe
  changes-most : (pipe : ℕ) (changes : List PipeChange) → All (λ c. IsUsualLatency S.tick_ns c.params) changes
      → AreShort S.tick_ns 40950020000000 (map (λ c. (c.tick, c.params)) (filter (λ c. c.pipe == pipe) changes))
  changes-most pipe [] usual = λ k d within. absurd (omega arith)
  changes-most pipe (c ∷ changes) usual =
      go (c.pipe == pipe) (changes-most pipe changes (All-tail (λ (d : PipeChange). IsUsualLatency S.tick_ns d.params) c changes usual))
    where
      go : (b : Bool)
          → AreShort S.tick_ns 40950020000000 (map (λ c. (c.tick, c.params)) (filter (λ c. c.pipe == pipe) changes))
          → AreShort S.tick_ns 40950020000000
          (map (λ c. (c.tick, c.params)) (cond b (c ∷ filter (λ c. c.pipe == pipe) changes) (filter (λ c. c.pipe == pipe) changes)))
      go false rest = rest
      go true rest =
          short-cons S.tick_ns 40950020000000 (c.tick, c.params) (map (λ c. (c.tick, c.params)) (filter (λ c. c.pipe == pipe) changes))
          (latency-usual S.tick_ns c.params least most (All-head (λ (d : PipeChange). IsUsualLatency S.tick_ns d.params) c changes usual))
          rest

  -- how long a pipe may keep a packet, in ns
  stay-most : All (IsUsualLatency S.tick_ns) S.pipes → All (λ c. IsUsualLatency S.tick_ns c.params) S.changes
      → (pipe : ℕ) → longest_stay S pipe ≤ 2140000000000000
  stay-most usual changed pipe =
      let latency : greatest_of (λ p. p.latency_ticks) S pipe * S.tick_ns ≤ 40950020000000 =
      greatest-times S.tick_ns 40950020000000 (first_params S pipe) (changes_of S pipe) (first-most S.pipes usual pipe)
      (changes-most pipe S.changes changed) in
      let places : greatest_of (λ p. p.queue) S pipe ≤ QUEUE_MAX =
      greatest-most (λ p. p.queue) QUEUE_MAX (λ p. p.places.1) (first_params S pipe) (changes_of S pipe) in
      let longest : greatest_of longest_transmission S pipe ≤ TX_NS_MAX =
      greatest-most longest_transmission TX_NS_MAX (λ p. transmission-most p.bps p.bandwidth.0) (first_params S pipe) (changes_of S pipe) in
      let queue : greatest_of (λ p. p.queue) S pipe * greatest_of longest_transmission S pipe ≤ QUEUE_MAX * TX_NS_MAX =
      mul-le-mul places longest in
      omega (arith, latency, queue)

pub usual_delays_fit : UsualDelaysFit
usual_delays_fit S route tick usual changed few =
    let each : All (λ pipe. longest_stay S pipe ≤ 2140000000000000) route =
    λ k d within. stay-most S tick.0 tick.1 usual changed (get_or route k d) in
    let sum = sum_by-le (longest_stay S) 2140000000000000 route each in
    omega (arith, sum, mul-le-mul_right 2140000000000000 few)
