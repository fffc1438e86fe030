-- What comes of a visit, case by case.
use Rattle.std.proofs.Common.{◌≡◌, ℕ, ◌+◌, ◌*◌, ◌<◌, ◌≤◌, Bool, true, false, nat_le, List, refl, sym, ap, ◌∙◌, arith, if◌then◌else◌, le_of_mul-le-mul_right, ◌-◌, ◌/◌, ◌^◌, nat_lt}
use Rattle.std.specs.Int.{div_ceil}
use Rattle.std.proofs.Math.Nat.{zero-mul, zero-div}
use Rattle.std.proofs.lemmas.Bool.{le-leb, lt-leb, le-ltb, ltb-false}
use Rattle.std.proofs.lemmas.Grind.{div_ceil_times}
use Rattle.pipe.specs.declared.step.Step.{Step}
use Rattle.pipe.specs.declared.step.Step.TheVariants as plain
use Rattle.pipe.specs.Finishes.{finish_of, last_finish}
use Rattle.pipe.specs.Steps.{exit_of, step_at}
use Rattle.std.specs.Prelude.{◌&&◌, ◌||◌}
use Rattle.red_queue.specs.declared.averages.TheConstants.{ONE_PACKET}
use Rattle.red_queue.specs.declared.params.RedParams.{RedParams}
use Rattle.red_queue.specs.declared.step.RedStep.{RedStep}
use Rattle.red_queue.specs.declared.step.RedStep.TheVariants.{Lost, Early, Full, Pass}
use Rattle.red_queue.specs.Outcome.{RedPast, plain_visits, base_at, waiting_at, average_at, drops_early, red_outcome, drop_limit}

-- the outcome by its three tests
abbrev pub pick : Bool → Bool → Bool → ℕ → RedStep
pick lost early full exit = if lost then Lost else if early then Early else if full then Full else Pass exit

-- a step of a pipe without averages
abbrev pub red_step : Step → RedStep
red_step plain.Lost = Lost
red_step plain.Full = Full
red_step (plain.Pass exit) = Pass exit

module _ (p : RedParams) (T : ℕ) (h : List RedPast) (tick len word : ℕ) where
  abbrev early_is : Bool
  early_is = drops_early p (average_at p T h tick) word

  abbrev full_is : Bool
  full_is = nat_le (p.base).queue (waiting_at p T h tick)

  abbrev exit_is : ℕ
  exit_is = exit_of (base_at p) T (plain_visits h) tick len

  pub outcome-lost : (lost : Bool) → lost ≡ true → Lost ≡ red_outcome p T h tick len lost word
  outcome-lost lost is = sym (ap (λ b. pick b early_is full_is exit_is) is)

  pub outcome-early : (lost : Bool) → lost ≡ false → (average : ℕ) → average ≡ average_at p T h tick
      → drops_early p average word ≡ true → Early ≡ red_outcome p T h tick len lost word
  outcome-early lost kept average is early =
      sym (ap (λ b. pick b early_is full_is exit_is) kept
      ∙ ap (λ b. pick false b full_is exit_is) (ap (λ a. drops_early p a word) (sym is) ∙ early))

  -- otherwise it is the step of a pipe without averages
  pub outcome-plain : (lost : Bool) → lost ≡ false → (average : ℕ) → average ≡ average_at p T h tick
      → drops_early p average word ≡ false
      → red_step (step_at (base_at p) T (plain_visits h) tick len false) ≡ red_outcome p T h tick len lost word
  outcome-plain lost kept average is stays =
      same full_is
      ∙ sym (ap (λ b. pick b early_is full_is exit_is) kept
      ∙ ap (λ b. pick false b full_is exit_is) (ap (λ a. drops_early p a word) (sym is) ∙ stays))
    where
      same : (full : Bool) → red_step (if full then plain.Full else plain.Pass exit_is) ≡ pick false false full exit_is
      same true = refl
      same false = refl

  -- a packet that passes leaves as it would without averages
  pub outcome-exit : (lost : Bool) (exit : ℕ) → red_outcome p T h tick len lost word ≡ Pass exit → exit_is ≡ exit
  outcome-exit lost exit is = go lost early_is full_is is
    where
      go : (l early full : Bool) → pick l early full exit_is ≡ Pass exit → exit_is ≡ exit
      go true early full e = cc
      go false true full e = cc
      go false false true e = cc
      go false false false e = cc

  -- and later than it came
  pub outcome-later : (lost : Bool) (exit : ℕ) → 0 < T → red_outcome p T h tick len lost word ≡ Pass exit → tick < exit
  outcome-later lost exit positive is =
      let f : ℕ = finish_of (base_at p) T (last_finish (base_at p) T 0 (plain_visits h)) tick len in
      let up : f ≤ div_ceil f T * T = (div_ceil_times f T positive).0 in
      let starts : tick * T ≤ f = omega arith in
      let ticks : tick ≤ div_ceil f T = le_of_mul-le-mul_right (omega (arith, up, starts)) positive in
      let delay : 1 ≤ (p.base).latency_ticks = (p.base).delays.0 in
      let leaves : div_ceil f T + (p.base).latency_ticks ≡ exit = outcome-exit lost exit is in
      omega (arith, ticks, delay, leaves)

-- the early word counts only where the average is from min up to max
pub outcome-blind : (p : RedParams) (T : ℕ) (h : List RedPast) (tick len : ℕ) (lost : Bool) (average word other : ℕ)
    → average ≡ average_at p T h tick → drops_early p average word ≡ drops_early p average other
    → red_outcome p T h tick len lost word ≡ red_outcome p T h tick len lost other
outcome-blind p T h tick len lost average word other is same =
    ap (λ b. pick lost b (nat_le (p.base).queue (waiting_at p T h tick)) (exit_of (base_at p) T (plain_visits h) tick len))
    (ap (λ a. drops_early p a word) (sym is) ∙ same ∙ ap (λ a. drops_early p a other) is)

-- it doesn't where early drops have no chance below max, or the average is below min, or it is at least max
pub blind_rare : (p : RedParams) (average word other : ℕ) → p.early ≡ 0 → drops_early p average word ≡ drops_early p average other
blind_rare p average word other never =
    let past : ℕ = average - p.min * ONE_PACKET in
    let span : ℕ = 1000000 * (p.max * ONE_PACKET - p.min * ONE_PACKET) in
    let none : drop_limit p average ≡ 0 =
    ap (λ e. e * past * 2 ^ 32 / span) never
    ∙ ap (λ n. n * 2 ^ 32 / span) (zero-mul past) ∙ ap (λ n. n / span) (zero-mul (2 ^ 32)) ∙ zero-div span in
    let missed : (w : ℕ) → nat_lt w (drop_limit p average) ≡ false = λ w. ap (nat_lt w) none ∙ le-ltb w 0 (omega arith) in
    let tests : Bool → Bool = λ b. nat_le (p.max * ONE_PACKET) average || (nat_le (p.min * ONE_PACKET) average && b) in
    ap tests (missed word) ∙ sym (ap tests (missed other))

pub blind_below : (p : RedParams) (average word other : ℕ) → average < p.min * ONE_PACKET
    → drops_early p average word ≡ drops_early p average other
blind_below p average word other low =
    let tests : ℕ → Bool → Bool = λ w b. nat_le (p.max * ONE_PACKET) average || (b && nat_lt w (drop_limit p average)) in
    let outside : nat_le (p.min * ONE_PACKET) average ≡ false = lt-leb (p.min * ONE_PACKET) average low in
    ap (tests word) outside ∙ sym (ap (tests other) outside)

pub blind_above : (p : RedParams) (average word other : ℕ) → nat_lt average (p.max * ONE_PACKET) ≡ false
    → drops_early p average word ≡ drops_early p average other
blind_above p average word other high =
    let tests : ℕ → Bool → Bool = λ w b. b || (nat_le (p.min * ONE_PACKET) average && nat_lt w (drop_limit p average)) in
    let full : nat_le (p.max * ONE_PACKET) average ≡ true = le-leb (p.max * ONE_PACKET) average (ltb-false average (p.max * ONE_PACKET) high) in
    ap (tests word) full ∙ sym (ap (tests other) full)
