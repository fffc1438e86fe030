-- How finishes and steps follow a list of visits, and how a pipe that stands for it stands for one visit more.
use Rattle.std.proofs.Common.{◌≡◌, ℕ, ◌+◌, ◌*◌, ◌<◌, ◌≤◌, Bool, true, false, nat_lt, max, List, [], ◌∷◌, ◌++◌, length, refl, ap, sym, ◌∙◌, arith, append-nil, if◌then◌else◌}
use Rattle.std.specs.Int.{div_ceil}
use Rattle.std.proofs.Math.Nat.{mul-le-mul_right}
use Rattle.std.proofs.lemmas.Bool.{le-leb, lt-leb}
use Rattle.std.proofs.lemmas.List.{length_push}
use Rattle.std.proofs.lemmas.List.Elements.{filter-append}
use Rattle.mn_base.specs.declared.params.PipeParams.{PipeParams}
use Rattle.mn_base.specs.Units.{transmission}
use Rattle.pipe.specs.declared.step.Step.{Step}
use Rattle.pipe.specs.declared.step.Step.TheVariants.{Lost, Full, Pass}
use Rattle.pipe.specs.Finishes.{PastVisit, has_passed, finish_of, finishes, last_finish, above}
use Rattle.pipe.specs.Steps.{step_at, visited, waiting}
use Rattle.pipe.specs.PipeView.{PipeView, params_at, last_tick, StandsFor}
use Rattle.pipe.proofs.Above.{above-above, above-later}

pub last_tick-push : (last : ℕ) (h : List PastVisit) (v : PastVisit) → last_tick last (h ++ v ∷ []) ≡ v.tick
last_tick-push last [] v = refl
last_tick-push last (w ∷ h) v = last_tick-push w.tick h v

-- the finishes and the last finish of a list with one visit more
module _ (at : ℕ → PipeParams) (T : ℕ) where
  pub last_finish-push : (last : ℕ) (h : List PastVisit) (v : PastVisit)
      → last_finish at T last (h ++ v ∷ [])
      ≡ (if has_passed v.step then finish_of at T (last_finish at T last h) v.tick v.len else last_finish at T last h)
  last_finish-push last [] v = refl
  last_finish-push last (w ∷ h) v =
      last_finish-push (if has_passed w.step then finish_of at T last w.tick w.len else last) h v

  pub finishes-push : (last : ℕ) (h : List PastVisit) (v : PastVisit)
      → finishes at T last (h ++ v ∷ [])
      ≡ finishes at T last h ++ (if has_passed v.step then finish_of at T (last_finish at T last h) v.tick v.len ∷ [] else [])
  finishes-push last [] v = refl
  finishes-push last (w ∷ h) v =
      go (has_passed w.step) (finish_of at T last w.tick w.len) (λ before. finishes-push before h v)
    where
      go : (b : Bool) (f : ℕ)
          → ((before : ℕ) → finishes at T before (h ++ v ∷ []) ≡ finishes at T before h ++ (if has_passed v.step then finish_of at T
          (last_finish at T before h) v.tick v.len ∷ [] else []))
          → (if b then f ∷ finishes at T f (h ++ v ∷ []) else finishes at T last (h ++ v ∷ []))
          ≡ (if b then f ∷ finishes at T f h else finishes at T last h) ++ (if has_passed v.step then finish_of at T (last_finish at T
          (if b then f else last) h) v.tick v.len ∷ [] else [])
      go true f rest = ap (λ times. f ∷ times) (rest f)
      go false f rest = rest last

-- what a pipe keeps once the finishes at or below a later tick are gone, and the parameters of that tick
pub record Drops (m : PipeView) (tick : ℕ) (params : PipeParams) (kept : List ℕ) : Type 0 where
  pub order : m.last_tick ≤ tick
  pub kept_is : kept ≡ above (tick * m.tick_ns) m.kept
  pub params_is : params ≡ params_at m tick

-- the same by the steps of a visit: `now` is what contracts see of the pipe, and `held` is kept before the drop
pub drops : {m now : PipeView} {tick : ℕ} {params : PipeParams} {kept held : List ℕ} → m ≡ now → now.last_tick ≤ tick
    → kept ≡ above (tick * m.tick_ns) held → held ≡ m.kept → params ≡ params_at m tick → Drops m tick params kept
drops {m} {now} {tick} is order dropped same params_is = record {
  order = omega (arith, ap (λ (k : PipeView). k.last_tick) is);
  kept_is = dropped ∙ ap (above (tick * m.tick_ns)) same;
  params_is = params_is;
}

-- what is kept then, once one more finish is put in, if it is above the tick
pub record Passes (m : PipeView) (tick len : ℕ) (params : PipeParams) (kept : List ℕ) (finish : ℕ) (pushed : List ℕ) : Type 0 where
  pub drops : Drops m tick params kept
  pub finish_is : finish ≡ max (tick * m.tick_ns) m.last_finish + transmission params.bps len
  pub pushed_is : pushed ≡ kept ++ above (tick * m.tick_ns) (finish ∷ [])

pub passes : {m : PipeView} {tick len start tx : ℕ} {params : PipeParams} {kept pushed : List ℕ} → Drops m tick params kept
    → start ≡ max (tick * m.tick_ns) m.last_finish → tx ≡ transmission params.bps len
    → pushed ≡ kept ++ above (tick * m.tick_ns) ((start + tx) ∷ []) → Passes m tick len params kept (start + tx) pushed
passes d start_is tx_is pushed_is = record {
  drops = d;
  finish_is = cc;
  pushed_is = pushed_is;
}

-- of a list that the pipe stands for, what is kept are the finishes that still count
pub above-finishes : {m : PipeView} {tick : ℕ} {params : PipeParams} {kept : List ℕ} → Drops m tick params kept
    → (h : List PastVisit) → StandsFor m h → kept ≡ above (tick * m.tick_ns) (finishes (params_at m) m.tick_ns 0 h)
above-finishes {m} {tick} d h s =
    d.kept_is
    ∙ above-later (tick * m.tick_ns) (m.last_tick * m.tick_ns) m.kept (finishes (params_at m) m.tick_ns 0 h) (mul-le-mul_right m.tick_ns d.order) s.kept

above-kept : {m : PipeView} {tick : ℕ} {params : PipeParams} {kept : List ℕ} → Drops m tick params kept
    → (h : List PastVisit) → StandsFor m h
    → above (tick * m.tick_ns) kept ≡ above (tick * m.tick_ns) (finishes (params_at m) m.tick_ns 0 h)
above-kept {m} {tick} d h s =
    ap (above (tick * m.tick_ns)) (above-finishes d h s)
    ∙ above-above (tick * m.tick_ns) (tick * m.tick_ns) (finishes (params_at m) m.tick_ns 0 h) (omega arith)

-- and the finish of a packet that passes is that of the recurrence
finish-is : {m : PipeView} {tick len finish : ℕ} {params : PipeParams} {kept pushed : List ℕ} → Passes m tick len params kept finish pushed
    → (h : List PastVisit) → StandsFor m h
    → finish ≡ finish_of (params_at m) m.tick_ns (last_finish (params_at m) m.tick_ns 0 h) tick len
finish-is {m} {tick} {len} p h s =
    p.finish_is
    ∙ ap (λ (q : PipeParams). max (tick * m.tick_ns) m.last_finish + transmission q.bps len) p.drops.params_is
    ∙ ap (λ last. max (tick * m.tick_ns) last + transmission (params_at m tick).bps len) s.last

-- the pipe after a visit whose packet doesn't pass, and after one whose packet does
abbrev pub stayed : PipeView → ℕ → List ℕ → PipeView
stayed m tick kept = record m { last_tick = tick; visits = m.visits + 1; kept = kept }

abbrev pub passed : PipeView → ℕ → ℕ → List ℕ → PipeView
passed m tick finish pushed = record m { last_tick = tick; last_finish = finish; visits = m.visits + 1; kept = pushed }

-- where the packet doesn't pass, the pipe remembers the tick
stands-stays : {m : PipeView} {tick : ℕ} {params : PipeParams} {kept : List ℕ} → Drops m tick params kept
    → (h : List PastVisit) (len : ℕ) (step : Step) → has_passed step ≡ false → StandsFor m h
    → StandsFor (stayed m tick kept) (h ++ record { tick = tick; len = len; step = step } ∷ [])
stands-stays {m} {tick} d h len step dropped s =
    let v : PastVisit = record { tick = tick; len = len; step = step } in
    record {
      tick = sym (last_tick-push 0 h v);
      last = rw (last_finish-push (params_at m) m.tick_ns 0 h v, dropped) s.last;
      visits = ap (λ n. n + 1) s.visits ∙ sym (length_push h v);
      kept = rw (finishes-push (params_at m) m.tick_ns 0 h v, dropped, append-nil (finishes (params_at m) m.tick_ns 0 h)) (above-kept d h s);
    }

-- where it passes, the pipe remembers its finish, too
stands-passes : {m : PipeView} {tick len finish : ℕ} {params : PipeParams} {kept pushed : List ℕ}
    → Passes m tick len params kept finish pushed
    → (h : List PastVisit) (step : Step) → has_passed step ≡ true → StandsFor m h
    → StandsFor (passed m tick finish pushed) (h ++ record { tick = tick; len = len; step = step } ∷ [])
stands-passes {m} {tick} {len} {finish} {params} {kept} p h step through s =
    let v : PastVisit = record { tick = tick; len = len; step = step } in
    let now : ℕ = tick * m.tick_ns in
    let times : List ℕ = finishes (params_at m) m.tick_ns 0 h in
    let is = finish-is p h s in
    record {
      tick = sym (last_tick-push 0 h v);
      last = rw (last_finish-push (params_at m) m.tick_ns 0 h v, through) is;
      visits = ap (λ n. n + 1) s.visits ∙ sym (length_push h v);
      kept = rw (finishes-push (params_at m) m.tick_ns 0 h v, through, p.pushed_is, ← is)
          (filter-append (λ time. nat_lt now time) kept (above now (finish ∷ []))
          ∙ ap (λ (late : List ℕ). above now kept ++ late) (above-above now now (finish ∷ []) (omega arith))
          ∙ ap (λ (early : List ℕ). early ++ above now (finish ∷ [])) (above-kept p.drops h s)
          ∙ sym (filter-append (λ time. nat_lt now time) times (finish ∷ [])));
    }

-- the three steps, by what the pipe keeps
pub step_at-lost : (at : ℕ → PipeParams) (T : ℕ) (h : List PastVisit) (tick len : ℕ) (lost : Bool) → lost ≡ true
    → Lost ≡ step_at at T h tick len lost
step_at-lost at T h tick len lost is = rw is

pub step_at-full : {m : PipeView} {tick : ℕ} {params : PipeParams} {kept : List ℕ} → Drops m tick params kept
    → (h : List PastVisit) (len : ℕ) (lost : Bool) → lost ≡ false → params.queue ≤ length kept → StandsFor m h
    → Full ≡ step_at (params_at m) m.tick_ns h tick len lost
step_at-full {m} {tick} {params} {kept} d h len lost is full s =
    let count : length kept ≡ waiting (params_at m) m.tick_ns h tick = ap length (above-finishes d h s) in
    let limit : params.queue ≡ (params_at m tick).queue = ap (λ (p : PipeParams). p.queue) d.params_is in
    rw (is, le-leb (params_at m tick).queue (waiting (params_at m) m.tick_ns h tick) (omega arith))

pub step_at-pass : {m : PipeView} {tick len finish : ℕ} {params : PipeParams} {kept pushed : List ℕ}
    → Passes m tick len params kept finish pushed
    → (h : List PastVisit) (lost : Bool) → lost ≡ false → length kept < params.queue → StandsFor m h
    → Pass (div_ceil finish m.tick_ns + params.latency_ticks) ≡ step_at (params_at m) m.tick_ns h tick len lost
step_at-pass {m} {tick} {len} {finish} {params} {kept} p h lost is room s =
    let count : length kept ≡ waiting (params_at m) m.tick_ns h tick = ap length (above-finishes p.drops h s) in
    let limit : params.queue ≡ (params_at m tick).queue = ap (λ (q : PipeParams). q.queue) p.drops.params_is in
    rw (is, lt-leb (params_at m tick).queue (waiting (params_at m) m.tick_ns h tick) (omega arith))
    (ap (λ (q : PipeParams). Pass (div_ceil finish m.tick_ns + q.latency_ticks)) p.drops.params_is
    ∙ ap (λ time. Pass (div_ceil time m.tick_ns + (params_at m tick).latency_ticks)) (finish-is p h s))

-- the pipe stands for each list with the visit added
pub visited-lost : {m : PipeView} {tick : ℕ} {params : PipeParams} {kept : List ℕ} → Drops m tick params kept
    → (h : List PastVisit) (len : ℕ) (lost : Bool) → lost ≡ true → StandsFor m h
    → StandsFor (stayed m tick kept) (visited (params_at m) m.tick_ns h tick len lost)
visited-lost {m} {tick} d h len lost is s =
    stands-stays d h len (step_at (params_at m) m.tick_ns h tick len lost)
    (ap has_passed (sym (step_at-lost (params_at m) m.tick_ns h tick len lost is))) s

pub visited-full : {m : PipeView} {tick : ℕ} {params : PipeParams} {kept : List ℕ} → Drops m tick params kept
    → (h : List PastVisit) (len : ℕ) (lost : Bool) → lost ≡ false → params.queue ≤ length kept → StandsFor m h
    → StandsFor (stayed m tick kept) (visited (params_at m) m.tick_ns h tick len lost)
visited-full {m} {tick} d h len lost is full s =
    stands-stays d h len (step_at (params_at m) m.tick_ns h tick len lost)
    (ap has_passed (sym (step_at-full d h len lost is full s))) s

pub visited-pass : {m : PipeView} {tick len finish : ℕ} {params : PipeParams} {kept pushed : List ℕ}
    → Passes m tick len params kept finish pushed
    → (h : List PastVisit) (lost : Bool) → lost ≡ false → length kept < params.queue → StandsFor m h
    → StandsFor (passed m tick finish pushed) (visited (params_at m) m.tick_ns h tick len lost)
visited-pass {m} {tick} {len} p h lost is room s =
    stands-passes p h (step_at (params_at m) m.tick_ns h tick len lost)
    (ap has_passed (sym (step_at-pass p h lost is room s))) s
