-- How long one pipe may keep a packet, from the steps alone.
use Rattle.std.proofs.Common.{◌≡◌, inl, inr, ℕ, ◌+◌, ◌*◌, ◌<◌, ◌≤◌, Bool, true, false, cond, nat_lt, List, [], ◌∷◌, length, refl, ap, arith, ltb-false}
use Rattle.std.specs.Int.{div_ceil}
use Rattle.std.proofs.Math.Nat.{mul-le-mul_right}
use Rattle.std.proofs.lemmas.Grind.{div_ceil_times}
use Rattle.mn_base.specs.Among.{Among}
use Rattle.mn_base.specs.declared.params.PipeParams.{PipeParams}
use Rattle.mn_base.specs.Units.{transmission}
use Rattle.pipe.specs.declared.step.Step.TheVariants.{Pass}
use Rattle.pipe.specs.Finishes.{PastVisit, has_passed, finish_of, finishes, last_finish, above}
use Rattle.pipe.specs.Steps.{waiting, step_at}
use Rattle.journal.proofs.Delays.{pass_parts}

-- a visit that came by the moment x, of a packet that transmits for at most `longest`
pub record IsUsual (at : ℕ → PipeParams) (T x longest : ℕ) (v : PastVisit) : Type 0 where
  pub by : v.tick * T ≤ x
  pub short : transmission (at v.tick).bps v.len ≤ longest

module _ (at : ℕ → PipeParams) (T x longest : ℕ) where
  -- at x the last finish is no further off than those that are above x take; c more are above it from before
  last_finish-near_from : (c last : ℕ) (h : List PastVisit) → last ≤ x + c * longest
      → ((v : PastVisit) → Among v h → IsUsual at T x longest v)
      → last_finish at T last h ≤ x + (c + length (above x (finishes at T last h))) * longest
  last_finish-near_from c last [] near usual = omega arith
  last_finish-near_from c last (v ∷ h) near usual =
      go (has_passed v.step) (nat_lt x f) refl (λ d before l. last_finish-near_from d before h l (λ w a. usual w (inr a)))
    where
      f : ℕ
      f = finish_of at T last v.tick v.len

      now : IsUsual at T x longest v
      now = usual v (inl refl)

      one_more : f ≤ x + (c + 1) * longest
      one_more =
          let by : v.tick * T ≤ x = now.by in
          let short : transmission (at v.tick).bps v.len ≤ longest = now.short in
          omega arith

      go : (passed late : Bool) → nat_lt x f ≡ late
          → ((d before : ℕ) → before ≤ x + d * longest → last_finish at T before h ≤ x + (d + length (above x (finishes at T before h))) * longest)
          → last_finish at T (cond passed f last) h
          ≤ x + (c + length (above x (cond passed (f ∷ finishes at T f h) (finishes at T last h)))) * longest
      go false late is rest = rest c last near
      go true true is rest =
          rw is (let r : last_finish at T f h ≤ x + (c + 1 + length (above x (finishes at T f h))) * longest = rest (c + 1) f one_more in omega arith)
      go true false is rest =
          rw is (let early : f ≤ x = ltb-false x f is in rest c f (omega arith))

  pub last_finish-near : (h : List PastVisit) → ((v : PastVisit) → Among v h → IsUsual at T x longest v)
      → last_finish at T 0 h ≤ x + length (above x (finishes at T 0 h)) * longest
  last_finish-near h usual = let near = last_finish-near_from 0 0 h (omega arith) usual in omega (arith, near)

-- a packet that passes leaves within its latency, two ticks of rounding and a full queue; each may be taken greater
pub pass-stay : (at : ℕ → PipeParams) (T latency places longest : ℕ) (h : List PastVisit) (tick len : ℕ) (lost : Bool) (exit : ℕ) → 0 < T
    → (at tick).latency_ticks ≤ latency → (at tick).queue ≤ places
    → ((v : PastVisit) → Among v h → IsUsual at T (tick * T) longest v) → transmission (at tick).bps len ≤ longest
    → step_at at T h tick len lost ≡ Pass exit
    → exit * T ≤ tick * T + (latency + 2) * T + places * longest
pass-stay at T latency places longest h tick len lost exit positive slow wide usual short passes =
    let p = pass_parts at T h tick len lost exit passes in
    let room : waiting at T h tick < (at tick).queue = p.room in
    let near : last_finish at T 0 h ≤ tick * T + waiting at T h tick * longest = last_finish-near at T (tick * T) longest h usual in
    let f : ℕ = finish_of at T (last_finish at T 0 h) tick len in
    let full : (waiting at T h tick + 1) * longest ≤ places * longest = mul-le-mul_right longest (omega arith) in
    let finish : f ≤ tick * T + places * longest = omega arith in
    let rounded : div_ceil f T * T < f + T = (div_ceil_times f T positive).1 in
    let leaves : exit ≡ div_ceil f T + (at tick).latency_ticks = p.leaves in
    let whole : exit * T ≡ (div_ceil f T + (at tick).latency_ticks) * T = ap (λ e. e * T) leaves in
    let delay : (at tick).latency_ticks * T ≤ latency * T = mul-le-mul_right T slow in
    omega arith
