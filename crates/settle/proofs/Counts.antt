-- The counts of each pipe, visit by visit.
use Rattle.std.proofs.Common.{◌≡◌, ℕ, ◌+◌, ◌^◌, ◌<◌, ◌≤◌, Bool, cond, eqb, List, [], ◌∷◌, ◌++◌, length, length-append, get_or, set, map, take, drop, All, Some, None, refl, sym, ap, subst, ◌∙◌, arith, add-zero, add-one, append-nil, append_assoc, ⊎_elim}
use Rattle.std.specs.Prelude.{◌&&◌}
use Rattle.std.specs.List.{range_with_len}
use Rattle.std.proofs.lemmas.Bool.{eq-eqb, ne_eqb, cases_eq}
use Rattle.std.proofs.Math.Seq.{drop-cons}
use Rattle.std.proofs.lemmas.List.{get_or-set_same, get_or-set_other, length-set, length-map, length-take-le, map-append, take_more, drop_all}
use Rattle.std.proofs.lemmas.List.FromFn.{length-map-range_with_len, get_or-map-range_with_len, fill_by_all}
use Rattle.std.proofs.lemmas.List.Sums.{length-filter, count_by-le-length}
use Rattle.pipe.specs.declared.step.Step.{Step}
use Rattle.pipe.specs.declared.step.Step.TheVariants.{Lost, Full, Pass}
use Rattle.pipe.specs.Finishes.{has_passed}
use Rattle.journal.specs.declared.fate.Fate.{Fate}
use Rattle.parcel.specs.declared.counts.PipeCounts.{PipeCounts}
use Rattle.parcel.specs.Counts.{has_lost, has_found_full}
use Rattle.parcel.specs.Counts.{counted}
use Rattle.settle.specs.Counted.{HasRoom}
use Rattle.settle.specs.Ways.{drop_step, way_from, way_of, step_count, counts_by, IsTally}
use Rattle.settle.proofs.Lists.{many-append, many-cons}

-- no more visits are counted than there are
step_count-le : (has : Step → Bool) (pipe : ℕ) (ways : List (ℕ × Step)) → step_count has pipe ways ≤ length ways
step_count-le has pipe ways =
    let test : ℕ × Step → Bool = λ m. eqb m.0 pipe && has m.1 in
    omega (arith, length-filter test ways, count_by-le-length test ways)

step_count-push : (has : Step → Bool) (pipe : ℕ) (ways : List (ℕ × Step)) (m : ℕ × Step)
    → step_count has pipe (ways ++ m ∷ []) ≡ step_count has pipe ways + cond (eqb m.0 pipe && has m.1) 1 0
step_count-push has pipe ways m =
    let test : ℕ × Step → Bool = λ n. eqb n.0 pipe && has n.1 in
    many-append test ways (m ∷ []) ∙ ap (λ n. step_count has pipe ways + n) (many-cons test m [] ∙ add-zero _)

-- with one more visit, the counts of its pipe rise by what came of it, and those of the other pipes stay
count_here : (has : Step → Bool) (pipe : ℕ) (ways : List (ℕ × Step)) (m : ℕ × Step) → m.0 ≡ pipe
    → step_count has pipe (ways ++ m ∷ []) ≡ step_count has pipe ways + cond (has m.1) 1 0
count_here has pipe ways m here = rw (eq-eqb m.0 pipe here) at (step_count-push has pipe ways m)

count_elsewhere : (has : Step → Bool) (pipe : ℕ) (ways : List (ℕ × Step)) (m : ℕ × Step) → (m.0 ≡ pipe → ⊥)
    → step_count has pipe (ways ++ m ∷ []) ≡ step_count has pipe ways
count_elsewhere has pipe ways m elsewhere = (rw (ne_eqb m.0 pipe elsewhere) at (step_count-push has pipe ways m)) ∙ add-zero _

abbrev counts : ℕ → ℕ → ℕ → ℕ → PipeCounts
counts pipe passed lost full = record { pipe = pipe; passed = passed; lost = lost; full = full }

counted-is : (pipe passed lost full : ℕ) (s : Step)
    → counts pipe (passed + cond (has_passed s) 1 0) (lost + cond (has_lost s) 1 0) (full + cond (has_found_full s) 1 0) ≡ counted
    (counts pipe passed lost full) s
counted-is pipe passed lost full Lost = simp add-zero
counted-is pipe passed lost full Full = simp add-zero
counted-is pipe passed lost full (Pass exit) = simp add-zero

counts_by-here : (pipe : ℕ) (ways : List (ℕ × Step)) (m : ℕ × Step) → m.0 ≡ pipe
    → counts_by (ways ++ m ∷ []) pipe ≡ counted (counts_by ways pipe) m.1
counts_by-here pipe ways m here =
    rw (count_here has_passed pipe ways m here, count_here has_lost pipe ways m here, count_here has_found_full pipe ways m here)
    (counted-is pipe _ _ _ m.1)

counts_by-elsewhere : (pipe : ℕ) (ways : List (ℕ × Step)) (m : ℕ × Step) → (m.0 ≡ pipe → ⊥)
    → counts_by (ways ++ m ∷ []) pipe ≡ counts_by ways pipe
counts_by-elsewhere pipe ways m elsewhere =
    rw (
      count_elsewhere has_passed pipe ways m elsewhere,
      count_elsewhere has_lost pipe ways m elsewhere,
      count_elsewhere has_found_full pipe ways m elsewhere,
    ) refl

at_index : (g : ℕ → PipeCounts) (n k : ℕ) (all : List PipeCounts) (e : PipeCounts) → all ≡ map g (range_with_len 0 n) → k < n
    → get_or all k e ≡ g k
at_index g n k all e so_far below =
    ap (λ xs. get_or xs k e) so_far ∙ get_or-map-range_with_len g 0 n k k e below (omega arith)

long : (g : ℕ → PipeCounts) (n : ℕ) (all : List PipeCounts) → all ≡ map g (range_with_len 0 n) → length all ≡ n
long g n all so_far = ap length so_far ∙ length-map-range_with_len g 0 n

-- one more visit, counted at its pipe
counted_at : (n : ℕ) (ways : List (ℕ × Step)) (m : ℕ × Step) (all : List PipeCounts) (e : PipeCounts) → m.0 < length all
    → all ≡ map (counts_by ways) (range_with_len 0 n)
    → set all m.0 (counted (get_or all m.0 e) m.1) ≡ map (counts_by (ways ++ m ∷ [])) (range_with_len 0 n)
counted_at n ways m all e named so_far =
    let y = counted (get_or all m.0 e) m.1 in
    let count = long (counts_by ways) n all so_far in
    let before : get_or all m.0 e ≡ counts_by ways m.0 = at_index (counts_by ways) n m.0 all e so_far (omega (arith, count, named)) in
    fill_by_all (counts_by (ways ++ m ∷ [])) (set all m.0 y) n e (length-set all m.0 y ∙ count)
    (λ k below.
    ⊎_elim
    (λ (here : m.0 ≡ k). subst
    (λ (i : ℕ). get_or (set all m.0 y) i e ≡ counts_by (ways ++ m ∷ []) i)
    here
    (get_or-set_same all m.0 y e named ∙ ap (λ c. counted c m.1) before ∙ sym (counts_by-here m.0 ways m refl)))
    (λ (elsewhere : m.0 ≡ k → ⊥).
    get_or-set_other all m.0 k y e (λ same. elsewhere (sym same))
    ∙ at_index (counts_by ways) n k all e so_far below
    ∙ sym (counts_by-elsewhere k ways m elsewhere))
    (cases_eq m.0 k))

-- the same, where x is what stands there and y what is written
pub counted_step : (n : ℕ) (ways : List (ℕ × Step)) (pipe : ℕ) (step : Step) (all more : List PipeCounts) (x y : PipeCounts)
    → pipe < length all
    → more ≡ set all pipe y → y ≡ counted x step → x ≡ get_or all pipe x → all ≡ map (counts_by ways) (range_with_len 0 n)
    → more ≡ map (counts_by (ways ++ (pipe, step) ∷ [])) (range_with_len 0 n)
counted_step n ways pipe step all more x y named written new old so_far =
    written
    ∙ ap (set all pipe) (new ∙ ap (λ c. counted c step) old)
    ∙ counted_at n ways (pipe, step) all x named so_far

-- no count is above the number of visits, so one more fits
pub counted_room : (all : List PipeCounts) (pipe : ℕ) (c : PipeCounts) (more : ℕ) → IsTally all more → 0 < more → pipe < length all
    → c ≡ get_or all pipe c → HasRoom c
counted_room all pipe c more t some named is =
    let count = long (counts_by t.ways) t.pipes all t.counts_are in
    let same : c ≡ counts_by t.ways pipe = is ∙ at_index (counts_by t.ways) t.pipes pipe all c t.counts_are (omega (arith, count, named)) in
    let few : length t.ways + more < 2 ^ 64 = t.few in
    rw same
    (record {
      passed = omega (arith, step_count-le has_passed pipe t.ways);
      lost = omega (arith, step_count-le has_lost pipe t.ways);
      full = omega (arith, step_count-le has_found_full pipe t.ways);
    })

-- a packet passed these pipes
abbrev pub passes : List ℕ → List (ℕ × Step)
passes pipes = map (λ q. (q, Pass 0)) pipes

passes-more : (route : List ℕ) (i d : ℕ) → i < length route
    → passes (take (i + 1) route) ≡ passes (take i route) ++ (get_or route i d, Pass 0) ∷ []
passes-more route i d within = ap passes (take_more route i d within) ∙ map-append (λ q. (q, Pass 0)) (take i route) (get_or route i d ∷ [])

way_of-rest : (route : List ℕ) (fate : Fate) (i d : ℕ) → i < length route
    → way_of (drop i route) fate ≡ way_from (get_or route i d) (drop_step fate (get_or route i d)) (way_of (drop (i + 1) route) fate)
way_of-rest route fate i d within =
    ap (λ qs. way_of qs fate) (drop-cons route i d within)
    ∙ ap (λ k. way_from (get_or route i d) (drop_step fate (get_or route i d)) (way_of (drop k route) fate)) (sym (add-one i))

-- how far the way of a packet has been counted: it passed the pipes below an index, and what follows is the way from there
pub record IsCounting (route : List ℕ) (fate : Fate) (i : ℕ) (before now : List PipeCounts) : Type 0 where
  pub tallied : (ways : List (ℕ × Step)) (pipes : ℕ) → before ≡ map (counts_by ways) (range_with_len 0 pipes)
      → now ≡ map (counts_by (ways ++ passes (take i route))) (range_with_len 0 pipes)
  pub so_far : way_of route fate ≡ passes (take i route) ++ way_of (drop i route) fate
  pub long : length now ≡ length before

-- what is written at one pipe of the route: x stands there, and y is it with one more visit
pub record Writes (route : List ℕ) (i pipe : ℕ) (step : Step) (now more : List PipeCounts) (x y : PipeCounts) : Type 0 where
  pub within : i < length route
  pub pipe_is : pipe ≡ get_or route i 0
  pub written : more ≡ set now pipe y
  pub counted_is : y ≡ counted x step
  pub read : x ≡ get_or now pipe x

pub counting-starts : (route : List ℕ) (fate : Fate) (all : List PipeCounts) → IsCounting route fate 0 all all
counting-starts route fate all = record {
  tallied = λ ways pipes is. is ∙ ap (λ ms. map (counts_by ms) (range_with_len 0 pipes)) (sym (append-nil ways));
  so_far = refl;
  long = refl;
}

counting-writes : {route : List ℕ} {fate : Fate} {i pipe : ℕ} {step : Step} {before now more : List PipeCounts} {x y : PipeCounts}
    → IsCounting route fate i before now → Writes route i pipe step now more x y → All (λ q. q < length before) route
    → (ways : List (ℕ × Step)) (pipes : ℕ) → before ≡ map (counts_by ways) (range_with_len 0 pipes)
    → more ≡ map (counts_by (ways ++ (passes (take i route) ++ (pipe, step) ∷ []))) (range_with_len 0 pipes)
counting-writes {route} {fate} {i} {pipe} {step} {before} {now} {more} {x} {y} c w named ways pipes is =
    let here : get_or route i 0 < length before = named i 0 w.within in
    counted_step pipes (ways ++ passes (take i route)) pipe step now more x y (omega
    (arith, w.pipe_is, c.long)) w.written w.counted_is w.read (c.tallied ways pipes is)
    ∙ ap (λ ms. map (counts_by ms) (range_with_len 0 pipes)) (append_assoc ways (passes (take i route)) ((pipe, step) ∷ []))

-- the packet passed one pipe more
pub counting-passes : {route : List ℕ} {fate : Fate} {i pipe : ℕ} {before now more : List PipeCounts} {x y : PipeCounts}
    → IsCounting route fate i before now → Writes route i pipe (Pass 0) now more x y → All (λ q. q < length before) route → drop_step fate pipe ≡ None
    → IsCounting route fate (i + 1) before more
counting-passes {route} {fate} {i} {pipe} {before} {now} {more} {x} {y} c w named none =
    let at : get_or route i 0 ≡ pipe = sym w.pipe_is in
    let front : passes (take (i + 1) route) ≡ passes (take i route) ++ (pipe, Pass 0) ∷ [] =
    passes-more route i 0 w.within ∙ ap (λ q. passes (take i route) ++ (q, Pass 0) ∷ []) at in
    let rest : way_of (drop i route) fate ≡ (pipe, Pass 0) ∷ way_of (drop (i + 1) route) fate =
    way_of-rest route fate i 0 w.within
    ∙ ap (λ q. way_from q (drop_step fate q) (way_of (drop (i + 1) route) fate)) at
    ∙ ap (λ s. way_from pipe s (way_of (drop (i + 1) route) fate)) none in
    record {
      tallied = λ ways pipes is.
          counting-writes c w named ways pipes is ∙ ap (λ ms. map (counts_by (ways ++ ms)) (range_with_len 0 pipes)) (sym front);
      so_far =
          c.so_far ∙ ap (λ ms. passes (take i route) ++ ms) rest
          ∙ sym (append_assoc (passes (take i route)) ((pipe, Pass 0) ∷ []) (way_of (drop (i + 1) route) fate))
          ∙ ap (λ ms. ms ++ way_of (drop (i + 1) route) fate) (sym front);
      long = ap (λ xs. length xs) w.written ∙ length-set now pipe y ∙ c.long;
    }

-- it was dropped there
pub counting-drops : {route : List ℕ} {fate : Fate} {i pipe : ℕ} {step : Step} {before now more : List PipeCounts} {x y : PipeCounts}
    → IsCounting route fate i before now → Writes route i pipe step now more x y → All (λ q. q < length before) route → drop_step fate pipe ≡ Some step
    → (ways : List (ℕ × Step)) (pipes : ℕ) → before ≡ map (counts_by ways) (range_with_len 0 pipes)
    → more ≡ map (counts_by (ways ++ way_of route fate)) (range_with_len 0 pipes)
counting-drops {route} {fate} {i} {pipe} {step} c w named some ways pipes is =
    let rest : way_of (drop i route) fate ≡ (pipe, step) ∷ [] =
    way_of-rest route fate i 0 w.within
    ∙ ap (λ q. way_from q (drop_step fate q) (way_of (drop (i + 1) route) fate)) (sym w.pipe_is)
    ∙ ap (λ s. way_from pipe s (way_of (drop (i + 1) route) fate)) some in
    let whole : way_of route fate ≡ passes (take i route) ++ (pipe, step) ∷ [] = c.so_far ∙ ap (λ ms. passes (take i route) ++ ms) rest in
    counting-writes c w named ways pipes is ∙ ap (λ ms. map (counts_by (ways ++ ms)) (range_with_len 0 pipes)) (sym whole)

-- it passed them all
pub counting-ends : {route : List ℕ} {fate : Fate} {i : ℕ} {before now : List PipeCounts} → IsCounting route fate i before now
    → length route ≤ i
    → (ways : List (ℕ × Step)) (pipes : ℕ) → before ≡ map (counts_by ways) (range_with_len 0 pipes)
    → now ≡ map (counts_by (ways ++ way_of route fate)) (range_with_len 0 pipes)
counting-ends {route} {fate} {i} c far ways pipes is =
    let whole : way_of route fate ≡ passes (take i route) =
    c.so_far ∙ ap (λ qs. passes (take i route) ++ way_of qs fate) (drop_all i route far) ∙ append-nil (passes (take i route)) in
    c.tallied ways pipes is ∙ ap (λ ms. map (counts_by (ways ++ ms)) (range_with_len 0 pipes)) (sym whole)

-- one more visit can be counted on the way
pub counting-room : {route : List ℕ} {fate : Fate} {i pipe : ℕ} {before now : List PipeCounts} {x : PipeCounts}
    → IsCounting route fate i before now
    → IsTally before (length route) → All (λ q. q < length before) route → i < length route → pipe ≡ get_or route i 0 → x ≡ get_or now pipe x → HasRoom x
counting-room {route} {fate} {i} {pipe} {before} {now} {x} c t named within at read =
    let here : get_or route i 0 < length before = named i 0 within in
    let front : length (passes (take i route)) ≡ i = length-map (take i route) (λ q. (q, Pass 0)) ∙ length-take-le i route (omega arith) in
    let few : length t.ways + length route < 2 ^ 64 = t.few in
    counted_room now pipe x 1
    (record {
      ways = t.ways ++ passes (take i route);
      pipes = t.pipes;
      counts_are = c.tallied t.ways t.pipes t.counts_are;
      few = omega (arith, length-append t.ways (passes (take i route)), front);
    })
    (omega arith) (omega (arith, at, c.long)) read
