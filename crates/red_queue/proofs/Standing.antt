-- A pipe that stands for a list of visits stands for one visit more.
use Rattle.std.proofs.Common.{◌≡◌, ℕ, ◌+◌, ◌*◌, ◌^◌, ◌<◌, ◌≤◌, Bool, true, false, max, List, [], ◌∷◌, ◌++◌, length, refl, sym, ap, ap₂, ◌∙◌, subst, arith}
use Rattle.std.specs.Int.{div_ceil}
use Rattle.std.proofs.lemmas.Grind.{div_ceil_times}
use Rattle.std.proofs.lemmas.List.{map-append, length_push}
use Rattle.mn_base.specs.declared.params.PipeParams.{PipeParams}
use Rattle.mn_base.specs.declared.limits.TheConstants.{PACKET_BYTES_MAX, TIME_NS_END, TX_NS_MAX}
use Rattle.mn_base.specs.Units.{transmission}
use Rattle.pipe.specs.declared.step.Step.{Step}
use Rattle.pipe.specs.declared.step.Step.TheVariants as plain
use Rattle.pipe.specs.Finishes.{PastVisit, above}
use Rattle.pipe.specs.Steps.{step_at}
use Rattle.pipe.specs.PipeView.{StandsFor, IsInBounds}
use Rattle.pipe.proofs.Recurrence.{Drops, Passes, passes, stayed, passed, above-finishes, step_at-full, step_at-pass, visited-lost, visited-full, visited-pass}
use Rattle.pipe.proofs.Bounds.{bounded-stays, bounded-passes, finish_bound, sum_fits}
use Rattle.red_queue.specs.declared.step.RedStep.{RedStep}
use Rattle.red_queue.specs.declared.step.RedStep.TheVariants.{Lost, Early, Full, Pass}
use Rattle.red_queue.specs.Outcome.{RedPast, plain_visit, plain_visits, base_at, waiting_at, aged, moved, average_of, average_at, drops_early, red_outcome, red_visited}
use Rattle.red_queue.specs.QueueView.{RedPipeView, plain_view, RedStandsFor, red_stay}
use Rattle.red_queue.proofs.AverageOf.{average-push}
use Rattle.red_queue.proofs.Outcomes.{red_step, outcome-lost, outcome-early, outcome-plain, outcome-blind}

-- bounds don't depend on how many visits there were
pub bounds-any : (m : RedPipeView) (a b : ℕ) → IsInBounds (plain_view m a) → IsInBounds (plain_view m b)
bounds-any m a b k = record {
  tick_length = k.tick_length;
  late = k.late;
  rising = k.rising;
  behind = k.behind;
  few = k.few;
  backlog = k.backlog;
}

-- what such a pipe remembers after a visit
abbrev pub after : RedPipeView → ℕ → ℕ → List ℕ → ℕ → RedPipeView
after m tick finish kept average = record m { last_tick = tick; last_finish = finish; kept = kept; average = average }

-- what it keeps once the finishes at or below a later tick are gone
pub record RedDrops (m : RedPipeView) (tick : ℕ) (kept : List ℕ) : Type 0 where
  pub plain : (visits : ℕ) → Drops (plain_view m visits) tick (m.params).base kept

-- and once one more finish is put in, if it is above the tick
pub record RedPasses (m : RedPipeView) (tick len : ℕ) (kept : List ℕ) (finish : ℕ) (pushed : List ℕ) : Type 0 where
  pub plain : (visits : ℕ) → Passes (plain_view m visits) tick len (m.params).base kept finish pushed

-- the same by the steps of a visit: `now` is what contracts see of the pipe, and `held` is kept before the drop
pub red_drops : {m now : RedPipeView} {tick : ℕ} {kept held : List ℕ} → m ≡ now → now.last_tick ≤ tick
    → kept ≡ above (tick * m.tick_ns) held → held ≡ m.kept → RedDrops m tick kept
red_drops {m} {now} {tick} is order dropped same = record {
  plain = λ visits. record {
    order = omega (arith, ap (λ (k : RedPipeView). k.last_tick) is);
    kept_is = dropped ∙ ap (above (tick * m.tick_ns)) same;
    params_is = refl;
  };
}

pub red_passes : {m : RedPipeView} {tick len start tx : ℕ} {kept pushed : List ℕ} → RedDrops m tick kept
    → start ≡ max (tick * m.tick_ns) m.last_finish → tx ≡ transmission ((m.params).base).bps len
    → pushed ≡ kept ++ above (tick * m.tick_ns) ((start + tx) ∷ []) → RedPasses m tick len kept (start + tx) pushed
red_passes d start_is tx_is pushed_is = record { plain = λ visits. passes (d.plain visits) start_is tx_is pushed_is }

-- the same list with a visit of this step
abbrev with_visit : List RedPast → ℕ → ℕ → RedStep → List RedPast
with_visit h tick len step = h ++ record { tick = tick; len = len; step = step } ∷ []

stands-push : (m : RedPipeView) (tick finish : ℕ) (kept : List ℕ) (average : ℕ) (h : List RedPast) (v : RedPast)
    → StandsFor (plain_view (after m tick finish kept average) (length (plain_visits h) + 1)) (plain_visits h ++ plain_visit v ∷ [])
    → average ≡ moved m.params m.tick_ns h (average_of m.params m.tick_ns h) v
    → RedStandsFor (after m tick finish kept average) (h ++ v ∷ [])
stands-push m tick finish kept average h v stands is = record {
  plain =
      subst (λ (ps : List PastVisit). StandsFor (plain_view (after m tick finish kept average) (length ps)) ps)
      (sym (map-append plain_visit h (v ∷ [])))
      (subst (λ n. StandsFor (plain_view (after m tick finish kept average) n) (plain_visits h ++ plain_visit v ∷ []))
      (sym (length_push (plain_visits h) (plain_visit v))) stands);
  average = is ∙ sym (average-push m.params m.tick_ns h v);
}

module _ {m : RedPipeView} {tick : ℕ} {kept : List ℕ} (d : RedDrops m tick kept) (h : List RedPast) (s : RedStandsFor m h) where
  abbrev past : List PastVisit
  past = plain_visits h

  -- what is kept is what waits
  count-is : length kept ≡ waiting_at m.params m.tick_ns h tick
  count-is = ap length (above-finishes (d.plain (length past)) past s.plain)

  -- so the average that comes of it is the one that the visit meets
  average-is : (average : ℕ) → average ≡ aged m.params m.average (length kept) → average ≡ average_at m.params m.tick_ns h tick
  average-is average is = is ∙ ap₂ (λ (a n : ℕ). aged m.params a n) s.average count-is

  pub after-lost : (len : ℕ) (lost : Bool) (word : ℕ) → lost ≡ true
      → RedStandsFor (after m tick m.last_finish kept m.average) (red_visited m.params m.tick_ns h tick len lost word)
  after-lost len lost word is =
      subst (λ (t : RedStep). RedStandsFor (after m tick m.last_finish kept m.average) (with_visit h tick len t))
      (outcome-lost m.params m.tick_ns h tick len word lost is)
      (stands-push m tick m.last_finish kept m.average h (record { tick = tick; len = len; step = Lost })
      (visited-lost (d.plain (length past)) past len true refl s.plain) s.average)

  module _ (average len : ℕ) (lost : Bool) (word : ℕ) (moves : average ≡ aged m.params m.average (length kept)) (is : lost ≡ false) where
    pub early-is : drops_early m.params average word ≡ true → Early ≡ red_outcome m.params m.tick_ns h tick len lost word
    early-is early = outcome-early m.params m.tick_ns h tick len word lost is average (average-is average moves) early

    -- a packet that is dropped early leaves the queue as a lost one does, and moves the average
    pub after-early : drops_early m.params average word ≡ true
        → RedStandsFor (after m tick m.last_finish kept average) (red_visited m.params m.tick_ns h tick len lost word)
    after-early early =
        subst (λ (t : RedStep). RedStandsFor (after m tick m.last_finish kept average) (with_visit h tick len t)) (early-is early)
        (stands-push m tick m.last_finish kept average h (record { tick = tick; len = len; step = Early })
        (visited-lost (d.plain (length past)) past len true refl s.plain) (average-is average moves))

    module _ (stays : drops_early m.params average word ≡ false) where
      plain-is : red_step (step_at (base_at m.params) m.tick_ns past tick len false) ≡ red_outcome m.params m.tick_ns h tick len lost word
      plain-is = outcome-plain m.params m.tick_ns h tick len word lost is average (average-is average moves) stays

      pub full-is : ((m.params).base).queue ≤ length kept → Full ≡ red_outcome m.params m.tick_ns h tick len lost word
      full-is full = ap red_step (step_at-full (d.plain (length past)) past len false refl full s.plain) ∙ plain-is

      pub after-full : ((m.params).base).queue ≤ length kept
          → RedStandsFor (after m tick m.last_finish kept average) (red_visited m.params m.tick_ns h tick len lost word)
      after-full full =
          subst (λ (t : RedStep). RedStandsFor (after m tick m.last_finish kept average) (with_visit h tick len t)) (full-is full)
          (stands-push m tick m.last_finish kept average h (record { tick = tick; len = len; step = Full })
          (subst (λ (t : Step). StandsFor (stayed (plain_view m (length past)) tick kept)
          (past ++ record { tick = tick; len = len; step = t } ∷ []))
          (sym (step_at-full (d.plain (length past)) past len false refl full s.plain))
          (visited-full (d.plain (length past)) past len false refl full s.plain)) (average-is average moves))

      module _ {finish : ℕ} {pushed : List ℕ} (p : RedPasses m tick len kept finish pushed)
          (room : length kept < ((m.params).base).queue) where
        step-is : plain.Pass (div_ceil finish m.tick_ns + ((m.params).base).latency_ticks)
            ≡ step_at (base_at m.params) m.tick_ns past tick len false
        step-is = step_at-pass (p.plain (length past)) past false refl room s.plain

        pub pass-is : Pass (div_ceil finish m.tick_ns + ((m.params).base).latency_ticks)
            ≡ red_outcome m.params m.tick_ns h tick len lost word
        pass-is = ap red_step step-is ∙ plain-is

        pub after-pass : RedStandsFor (after m tick finish pushed average) (red_visited m.params m.tick_ns h tick len lost word)
        after-pass =
            subst (λ (t : RedStep). RedStandsFor (after m tick finish pushed average) (with_visit h tick len t)) pass-is
            (stands-push m tick finish pushed average h
            (record { tick = tick; len = len; step = Pass (div_ceil finish m.tick_ns + ((m.params).base).latency_ticks) })
            (subst (λ (t : Step). StandsFor (passed (plain_view m (length past)) tick finish pushed)
            (past ++ record { tick = tick; len = len; step = t } ∷ []))
            (sym step-is)
            (visited-pass (p.plain (length past)) past false refl room s.plain)) (average-is average moves))

-- where no word decides at the average that a visit makes, its outcome depends on no word
pub asked-nothing : {m now : RedPipeView} (tick waiting average : ℕ) → m ≡ now → now.last_tick ≤ tick
    → waiting ≡ length (above (tick * m.tick_ns) m.kept) → average ≡ aged m.params m.average waiting
    → ((word other : ℕ) → drops_early m.params average word ≡ drops_early m.params average other)
    → (h : List RedPast) → RedStandsFor m h → (len word other : ℕ) (lost : Bool)
    → red_outcome m.params m.tick_ns h tick len lost word ≡ red_outcome m.params m.tick_ns h tick len lost other
asked-nothing {m} {now} tick waiting average is order counted moves blind h s len word other lost =
    let kept : List ℕ = above (tick * m.tick_ns) m.kept in
    let d : RedDrops m tick kept = red_drops is order refl refl in
    outcome-blind m.params m.tick_ns h tick len lost average word other
    (average-is d h s average (moves ∙ ap (aged m.params m.average) counted)) (blind word other)

-- bounds after a visit
pub red-bounds-stay : {m : RedPipeView} {tick : ℕ} {kept : List ℕ} (average : ℕ) → IsInBounds (plain_view m 0) → RedDrops m tick kept
    → IsInBounds (plain_view (after m tick m.last_finish kept average) 0)
red-bounds-stay {m} {tick} {kept} average b d =
    bounds-any (after m tick m.last_finish kept average) 1 0 (bounded-stays b (d.plain 0))

pub red-bounds-pass : {m : RedPipeView} {tick len : ℕ} {kept : List ℕ} {finish : ℕ} {pushed : List ℕ} (average : ℕ)
    → IsInBounds (plain_view m 0)
    → RedPasses m tick len kept finish pushed → len ≤ PACKET_BYTES_MAX → length kept < ((m.params).base).queue
    → IsInBounds (plain_view (after m tick finish pushed average) 0)
red-bounds-pass {m} {tick} {len} {kept} {finish} {pushed} average b p short room =
    bounds-any (after m tick finish pushed average) 1 0 (bounded-passes (p.plain 0) short room b)

-- a packet that passes leaves within the pipe's latency, two ticks of rounding and a full queue
pub red-stays : {m : RedPipeView} {tick len : ℕ} {kept : List ℕ} {finish : ℕ} {pushed : List ℕ}
    → IsInBounds (plain_view m 0)
    → RedPasses m tick len kept finish pushed → len ≤ PACKET_BYTES_MAX → length kept < ((m.params).base).queue → 0 < m.tick_ns
    → (div_ceil finish m.tick_ns + ((m.params).base).latency_ticks) * m.tick_ns
    ≤ tick * m.tick_ns + red_stay m.tick_ns m.params
red-stays {m} {tick} {len} {kept} {finish} b p short room positive =
    let base : PipeParams = (m.params).base in
    let bound : finish ≤ tick * m.tick_ns + base.queue * transmission base.bps PACKET_BYTES_MAX =
    finish_bound (p.plain 0) short room b in
    let rounded : div_ceil finish m.tick_ns * m.tick_ns < finish + m.tick_ns = (div_ceil_times finish m.tick_ns positive).1 in
    omega (arith, bound, rounded)

-- a start and a transmission add up within 64 bits; `now` is what contracts see of the pipe
pub red-sum_fits : {m now : RedPipeView} {tick start tx : ℕ} → IsInBounds (plain_view m 0) → m ≡ now → now.last_tick ≤ tick
    → tick * now.tick_ns < TIME_NS_END → start ≡ max (tick * m.tick_ns) m.last_finish → tx ≤ TX_NS_MAX → start + tx < 2 ^ 64
red-sum_fits b is order time start_is short = sum_fits b (ap (λ (k : RedPipeView). plain_view k 0) is) order time start_is short
