-- The visits to a pipe of the row, and pipes that stand for them, from one visit of the list to the next.
use Rattle.std.proofs.Common.{◌≡◌, ◌≢◌, ◌⊎◌, inl, inr, ℕ, ◌+◌, ◌<◌, ◌≤◌, ◌==◌, nat_le, List, [], ◌∷◌, ◌++◌, length, map, filter, Option, Some, slice_index_or, slice_set, get_or-set_same, get_or-set_other, length-set, append-nil, refl, sym, ap, ap₂, ◌∙◌, subst, arith, eq-eqb}
use Rattle.std.specs.Option.{option_map_or}
use Rattle.std.proofs.lemmas.Bool.{cases_eq, cases_lt, ne_eqb}
use Rattle.std.proofs.lemmas.List.{map-append, length_push, get_or_push, get_or_append_left}
use Rattle.std.proofs.lemmas.List.Elements.{filter-append}
use Rattle.mn_base.specs.Among.{Among}
use Rattle.mn_base.specs.declared.due.Due.{Due}
use Rattle.mn_base.proofs.Members.{Among-from-map, Among-from-filter}
use Rattle.loss_words.specs.Word.{loss_word, early_word}
use Rattle.pipe.specs.Finishes.{PastVisit}
use Rattle.pipe.specs.PipeView.{last_tick}
use Rattle.red_queue.specs.declared.params.RedParams.{RedParams}
use Rattle.red_queue.specs.declared.step.RedStep.{RedStep}
use Rattle.red_queue.specs.declared.step.RedStep.TheVariants.{Lost}
use Rattle.red_queue.specs.declared.visit.RedVisit.{RedVisit}
use Rattle.red_queue.specs.Outcome.{RedPast, plain_visit, plain_visits, red_outcome}
use Rattle.red_queue.specs.QueueView.{RedStandsFor}
use Rattle.red_queue.specs.SetupView.{RedSetupView, red_len_of}
use Rattle.red_queue.specs.Journal.{red_past_visit, red_visits_to, outcome_at, red_step_of, red_visit_of}
use Rattle.red_queue.specs.Making.{AtWorkView, decided, IsAtWork, AreAtWork, AreIdle}

-- one visit more reaches its own pipe, and no other
visits_to-push_same : (R : RedSetupView) (hop : ℕ) (J : List RedVisit) (v : RedVisit) → v.hop ≡ hop
    → red_visits_to R hop (J ++ v ∷ []) ≡ red_visits_to R hop J ++ red_past_visit R v ∷ []
visits_to-push_same R hop J v same =
    ap (map (red_past_visit R))
    (filter-append (λ (u : RedVisit). u.hop == hop) J (v ∷ [])
    ∙ ap (λ (vs : List RedVisit). filter (λ (u : RedVisit). u.hop == hop) J ++ vs) kept)
    ∙ map-append (red_past_visit R) (filter (λ (u : RedVisit). u.hop == hop) J) (v ∷ [])
  where
    kept : filter (λ (u : RedVisit). u.hop == hop) (v ∷ []) ≡ v ∷ []
    kept = rw (eq-eqb v.hop hop same)

visits_to-push_other : (R : RedSetupView) (hop : ℕ) (J : List RedVisit) (v : RedVisit) → v.hop ≢ hop
    → red_visits_to R hop (J ++ v ∷ []) ≡ red_visits_to R hop J
visits_to-push_other R hop J v other =
    ap (map (red_past_visit R))
    (filter-append (λ (u : RedVisit). u.hop == hop) J (v ∷ [])
    ∙ ap (λ (vs : List RedVisit). filter (λ (u : RedVisit). u.hop == hop) J ++ vs) left
    ∙ append-nil (filter (λ (u : RedVisit). u.hop == hop) J))
  where
    left : filter (λ (u : RedVisit). u.hop == hop) (v ∷ []) ≡ []
    left = rw (ne_eqb v.hop hop other)

-- the pipe of a number
pub pipe-at : {R : RedSetupView} {J : List RedVisit} {pipes : List AtWorkView} → AreAtWork R J pipes → (hop : ℕ) (m : AtWorkView)
    → hop < length R.pipes → m ≡ slice_index_or pipes hop m → IsAtWork R J hop m
pipe-at {R} {J} are hop m within is = subst (IsAtWork R J hop) (sym is) (are.each hop m (omega (arith, are.count)))

last_tick-bound : (bound last : ℕ) (h : List PastVisit) → last ≤ bound → ((a : PastVisit) → Among a h → a.tick ≤ bound)
    → last_tick last h ≤ bound
last_tick-bound bound last [] low all = low
last_tick-bound bound last (a ∷ h) low all = last_tick-bound bound a.tick h (all a (inl refl)) (λ b m. all b (inr m))

-- where all visits are by a tick, so is the pipe's last
pub pipe-order : {R : RedSetupView} {J : List RedVisit} {hop : ℕ} {m : AtWorkView} → IsAtWork R J hop m → (tick : ℕ)
    → ((v : RedVisit) → Among v J → v.tick ≤ tick) → (m.memory).last_tick ≤ tick
pipe-order {R} {J} {hop} {m} is tick by =
    let low : last_tick 0 (plain_visits (red_visits_to R hop J)) ≤ tick =
    last_tick-bound tick 0 (plain_visits (red_visits_to R hop J)) (omega arith) each in
    let last : (m.memory).last_tick ≡ last_tick 0 (plain_visits (red_visits_to R hop J)) = is.stands.plain.tick in
    omega (arith, low, last)
  where
    each : (a : PastVisit) → Among a (plain_visits (red_visits_to R hop J)) → a.tick ≤ tick
    each a among =
        let s = Among-from-map plain_visit a (red_visits_to R hop J) among in
        let u = Among-from-map (red_past_visit R) s.0 (filter (λ (w : RedVisit). w.hop == hop) J) s.1 in
        let early : u.0.tick ≤ tick = by u.0 (Among-from-filter (λ (w : RedVisit). w.hop == hop) u.0 J u.1).0 in
        let same : u.0.tick ≡ s.0.tick = ap (λ (b : RedPast). b.tick) u.2 in
        let at : s.0.tick ≡ a.tick = ap (λ (b : PastVisit). b.tick) s.2 in
        omega (arith, early, same, at)

-- what a pipe says of a due visit, for each list that it stands for
pub record Decided (R : RedSetupView) (x : Due) (len : ℕ) (old new : AtWorkView) (step : RedStep) : Type 0 where
  pub len_is : len ≡ red_len_of R x.packet
  pub step_is : (h : List RedPast) → RedStandsFor old.memory h → step ≡ decided old h x len
  pub stands : (h : List RedPast) → RedStandsFor old.memory h
      → RedStandsFor new.memory (h ++ record { tick = x.tick; len = len; step = decided old h x len } ∷ [])
  pub number : new.number ≡ old.number
  pub seed : new.seed ≡ old.seed
  pub params : (new.memory).params ≡ (old.memory).params
  pub tick_ns : (new.memory).tick_ns ≡ (old.memory).tick_ns

module _ {R : RedSetupView} {x : Due} {len : ℕ} {old new : AtWorkView} {step : RedStep} (d : Decided R x len old new step)
    (J : List RedVisit) (is : IsAtWork R J x.hop old) where
  -- by the words, the tick length and the length of another pipe and packet
  abbrev said : ℕ → ℕ → ℕ → ℕ → RedStep
  said T seed number l = let params : RedParams = (old.memory).params in
      red_outcome params T (red_visits_to R x.hop J) x.tick l (nat_le (params.base).keep (loss_word seed number x.packet))
      (early_word seed number x.packet)

  own : decided old (red_visits_to R x.hop J) x len ≡ red_step_of R x (red_visits_to R x.hop J)
  unfolding red_step_of
  own =
      ap₂ (λ (T s : ℕ). said T s old.number len) is.tick_ns is.seed
      ∙ ap₂ (λ (n l : ℕ). said R.tick_ns R.seed n l) is.number d.len_is
      ∙ sym (ap (λ (o : Option RedParams). option_map_or (outcome_at R x (red_visits_to R x.hop J)) o Lost) is.params)

  pub decided-step : step ≡ red_step_of R x (red_visits_to R x.hop J)
  decided-step = d.step_is (red_visits_to R x.hop J) is.stands ∙ own

  pub decided-visit : record { tick = x.tick; packet = x.packet; hop = x.hop; step = step } ≡ red_visit_of R J x
  decided-visit =
      let made : RedStep → RedVisit = λ s. record { tick = x.tick; packet = x.packet; hop = x.hop; step = s } in
      ap made decided-step

  pub decided-pipe : IsAtWork R (J ++ red_visit_of R J x ∷ []) x.hop new
  decided-pipe =
      let past : ℕ → RedStep → RedPast = λ l s. record { tick = x.tick; len = l; step = s } in
      record {
        number = d.number ∙ is.number;
        seed = d.seed ∙ is.seed;
        tick_ns = d.tick_ns ∙ is.tick_ns;
        params = is.params ∙ ap Some (sym d.params);
        stands =
            subst (RedStandsFor new.memory)
            (ap₂ (λ (l : ℕ) (s : RedStep). red_visits_to R x.hop J ++ past l s ∷ []) d.len_is own
            ∙ sym (visits_to-push_same R x.hop J (red_visit_of R J x) refl))
            (d.stands (red_visits_to R x.hop J) is.stands);
      }

-- and all pipes
pub pipes-push : {R : RedSetupView} {J : List RedVisit} {pipes : List AtWorkView} → AreAtWork R J pipes
    → (hop : ℕ) (new : AtWorkView) (v : RedVisit)
    → hop < length pipes → v.hop ≡ hop → IsAtWork R (J ++ v ∷ []) hop new → AreAtWork R (J ++ v ∷ []) (slice_set pipes hop new)
pipes-push {R} {J} {pipes} are hop new v within same is = record {
  count = length-set pipes hop new ∙ are.count;
  each = λ q d inside. go q d inside (cases_eq q hop);
}
  where
    go : (q : ℕ) (d : AtWorkView) → q < length (slice_set pipes hop new) → (q ≡ hop) ⊎ (q ≡ hop → ⊥)
        → IsAtWork R (J ++ v ∷ []) q (slice_index_or (slice_set pipes hop new) q d)
    go q d inside (inl here) =
        subst (λ k. IsAtWork R (J ++ v ∷ []) k (slice_index_or (slice_set pipes hop new) k d)) (sym here)
        (subst (IsAtWork R (J ++ v ∷ []) hop) (sym (get_or-set_same pipes hop new d within)) is)
    go q d inside (inr there) =
        let i : q < length pipes = omega (arith, length-set pipes hop new) in
        let old = are.each q d i in
        subst (IsAtWork R (J ++ v ∷ []) q) (sym (get_or-set_other pipes hop q new d there))
        (record {
          number = old.number;
          seed = old.seed;
          tick_ns = old.tick_ns;
          params = old.params;
          stands =
              subst (RedStandsFor (slice_index_or pipes q d).memory)
              (sym (visits_to-push_other R q J v (λ e. there (sym e ∙ same)))) old.stands;
        })

-- one pipe more, before any visit
pub idle-push : {R : RedSetupView} (pipes : List AtWorkView) (m : AtWorkView) (more : List AtWorkView) (n : ℕ)
    → AreIdle R pipes → length pipes ≡ n → more ≡ pipes ++ m ∷ [] → IsAtWork R [] n m → AreIdle R more
idle-push {R} pipes m more n are count is here = record { each = each }
  where
    each : (hop : ℕ) (d : AtWorkView) → hop < length more → IsAtWork R [] hop (slice_index_or more hop d)
    each hop d within =
        subst (λ (ps : List AtWorkView). IsAtWork R [] hop (slice_index_or ps hop d)) (sym is) (go (cases_lt hop n))
      where
        inside : hop < length pipes + 1
        inside = let l : length more ≡ length pipes + 1 = ap length is ∙ length_push pipes m in omega (arith, l)

        go : (hop < n) ⊎ (n ≤ hop) → IsAtWork R [] hop (slice_index_or (pipes ++ m ∷ []) hop d)
        go (inl before) =
            let low : hop < length pipes = omega (arith, count) in
            subst (IsAtWork R [] hop) (sym (get_or_append_left pipes (m ∷ []) d hop low)) (are.each hop d low)
        go (inr last) =
            let at : hop ≡ length pipes = omega (arith, count, inside) in
            subst (λ k. IsAtWork R [] k (slice_index_or (pipes ++ m ∷ []) k d)) (sym at)
            (subst (IsAtWork R [] (length pipes)) (sym (get_or_push pipes m d (length pipes) refl))
            (subst (λ k. IsAtWork R [] k m) (sym count) here))
