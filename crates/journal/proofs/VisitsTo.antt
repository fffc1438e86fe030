-- The visits to a pipe, and pipes that stand for them, from one visit of the list to the next.
use Rattle.std.proofs.Common.{◌≡◌, ◌≢◌, ◌⊎◌, inl, inr, ℕ, ◌+◌, ◌<◌, ◌≤◌, List, [], ◌∷◌, ◌++◌, length, map, filter, slice_index_or, slice_set, get_or-set_same, get_or-set_other, length-set, append-nil, refl, sym, ap, ◌∙◌, subst, arith, ◌==◌, eq-eqb}
use Rattle.std.proofs.lemmas.Bool.{cases_eq, cases_lt, ne_eqb}
use Rattle.std.proofs.lemmas.List.{map-append, length_push, get_or_push, get_or_append_left}
use Rattle.std.proofs.lemmas.List.Elements.{filter-append}
use Rattle.mn_base.specs.Among.{Among}
use Rattle.mn_base.specs.declared.due.Due.{Due}
use Rattle.pipe.specs.declared.step.Step.{Step}
use Rattle.pipe.specs.Finishes.{PastVisit}
use Rattle.pipe.specs.PipeView.{StandsFor, last_tick}
use Rattle.journal.specs.declared.visit.Visit.{Visit}
use Rattle.journal.specs.SetupView.{SetupView, len_of}
use Rattle.journal.specs.Hops.{pipe_of}
use Rattle.journal.specs.Steps.{past_visit, visits_to, step_of, visit_of}
use Rattle.journal.specs.IsPipe.{SetupPipeView, IsOfSetup, IsPipe, ArePipes}
use Rattle.mn_base.proofs.Members.{Among-from-map, Among-from-filter}

-- one visit more reaches its own pipe, and no other
pub visits_to-push_same : (S : SetupView) (pipe : ℕ) (J : List Visit) (v : Visit) → v.pipe ≡ pipe
    → visits_to S pipe (J ++ v ∷ []) ≡ visits_to S pipe J ++ past_visit S v ∷ []
visits_to-push_same S pipe J v same =
    ap (map (past_visit S))
    (filter-append (λ (u : Visit). u.pipe == pipe) J (v ∷ []) ∙ ap (λ (vs : List Visit). filter (λ (u : Visit). u.pipe == pipe) J ++ vs) kept)
    ∙ map-append (past_visit S) (filter (λ (u : Visit). u.pipe == pipe) J) (v ∷ [])
  where
    kept : filter (λ (u : Visit). u.pipe == pipe) (v ∷ []) ≡ v ∷ []
    kept = rw (eq-eqb v.pipe pipe same)

pub visits_to-push_other : (S : SetupView) (pipe : ℕ) (J : List Visit) (v : Visit) → v.pipe ≢ pipe
    → visits_to S pipe (J ++ v ∷ []) ≡ visits_to S pipe J
visits_to-push_other S pipe J v other =
    ap (map (past_visit S))
    (filter-append (λ (u : Visit). u.pipe == pipe) J (v ∷ [])
    ∙ ap (λ (vs : List Visit). filter (λ (u : Visit). u.pipe == pipe) J ++ vs) left
    ∙ append-nil (filter (λ (u : Visit). u.pipe == pipe) J))
  where
    left : filter (λ (u : Visit). u.pipe == pipe) (v ∷ []) ≡ []
    left = rw (ne_eqb v.pipe pipe other)

-- the pipe of a number
pub pipe-at : {S : SetupView} {J : List Visit} {pipes : List SetupPipeView} → ArePipes S J pipes → (pipe : ℕ) (m : SetupPipeView)
    → pipe < length S.pipes → m ≡ slice_index_or pipes pipe m → IsPipe S J pipe m
pipe-at {S} {J} are pipe m named is = subst (IsPipe S J pipe) (sym is) (are.each pipe m (omega (arith, are.count)))

last_tick-bound : (bound last : ℕ) (h : List PastVisit) → last ≤ bound → ((a : PastVisit) → Among a h → a.tick ≤ bound)
    → last_tick last h ≤ bound
last_tick-bound bound last [] low all = low
last_tick-bound bound last (a ∷ h) low all = last_tick-bound bound a.tick h (all a (inl refl)) (λ b m. all b (inr m))

-- where all visits are by a tick, so is the pipe's last
pub pipe-order : {S : SetupView} {J : List Visit} {pipe : ℕ} {m : SetupPipeView} → IsPipe S J pipe m → (tick : ℕ)
    → ((v : Visit) → Among v J → v.tick ≤ tick) → m.memory.last_tick ≤ tick
pipe-order {S} {J} {pipe} is tick by =
    let low : last_tick 0 (visits_to S pipe J) ≤ tick = last_tick-bound tick 0 (visits_to S pipe J) (omega arith) each in
    omega (arith, is.stands.tick)
  where
    each : (a : PastVisit) → Among a (visits_to S pipe J) → a.tick ≤ tick
    each a m =
        let u = Among-from-map (past_visit S) a (filter (λ (w : Visit). w.pipe == pipe) J) m in
        let early : u.0.tick ≤ tick = by u.0 (Among-from-filter (λ (w : Visit). w.pipe == pipe) u.0 J u.1).0 in
        let same : u.0.tick ≡ a.tick = ap (λ (b : PastVisit). b.tick) u.2 in
        omega (arith, early, same)

-- what a pipe says of a due visit, for each list that it stands for
pub record Decided (S : SetupView) (x : Due) (pipe : ℕ) (old new : SetupPipeView) (step : Step) : Type 0 where
  pub pipe_is : pipe ≡ pipe_of S x
  pub step_is : (h : List PastVisit) → StandsFor old.memory h → step ≡ step_of S old.number x h
  pub stands : (h : List PastVisit) → StandsFor old.memory h
      → StandsFor new.memory (h ++ record { tick = x.tick; len = len_of S x.packet; step = step_of S old.number x h } ∷ [])
  pub of_setup : IsOfSetup S new
  pub number : new.number ≡ old.number

-- the visit that is made
abbrev pub made : Due → ℕ → Step → Visit
made x pipe step = record { tick = x.tick; packet = x.packet; hop = x.hop; pipe = pipe; step = step }

module _ {S : SetupView} {x : Due} {pipe : ℕ} {old new : SetupPipeView} {step : Step} (d : Decided S x pipe old new step)
    (J : List Visit) (is : IsPipe S J pipe old) where
  own : step ≡ step_of S pipe x (visits_to S pipe J)
  own = d.step_is (visits_to S pipe J) is.stands ∙ ap (λ q. step_of S q x (visits_to S pipe J)) is.number

  pub decided-visit : made x pipe step ≡ visit_of S J x
  decided-visit = ap (made x pipe) own ∙ ap (λ q. made x q (step_of S q x (visits_to S q J))) d.pipe_is

  pub decided-pipe : IsPipe S (J ++ made x pipe step ∷ []) pipe new
  decided-pipe = record {
    number = d.number ∙ is.number;
    of_setup = d.of_setup;
    stands =
        subst (StandsFor new.memory)
        (ap (λ (s : Step). visits_to S pipe J ++ record { tick = x.tick; len = len_of S x.packet; step = s } ∷ [])
        (sym (d.step_is (visits_to S pipe J) is.stands))
        ∙ sym (visits_to-push_same S pipe J (made x pipe step) refl))
        (d.stands (visits_to S pipe J) is.stands);
  }

-- and all pipes
pub pipes-push : {S : SetupView} {J : List Visit} {pipes : List SetupPipeView} → ArePipes S J pipes
    → (pipe : ℕ) (new : SetupPipeView) (v : Visit)
    → pipe < length pipes → v.pipe ≡ pipe → IsPipe S (J ++ v ∷ []) pipe new → ArePipes S (J ++ v ∷ []) (slice_set pipes pipe new)
pipes-push {S} {J} {pipes} are pipe new v within same is = record {
  count = length-set pipes pipe new ∙ are.count;
  each = λ q d inside. go q d inside (cases_eq q pipe);
}
  where
    go : (q : ℕ) (d : SetupPipeView) → q < length (slice_set pipes pipe new) → (q ≡ pipe) ⊎ (q ≡ pipe → ⊥)
        → IsPipe S (J ++ v ∷ []) q (slice_index_or (slice_set pipes pipe new) q d)
    go q d inside (inl here) =
        subst (λ k. IsPipe S (J ++ v ∷ []) k (slice_index_or (slice_set pipes pipe new) k d)) (sym here)
        (subst (IsPipe S (J ++ v ∷ []) pipe) (sym (get_or-set_same pipes pipe new d within)) is)
    go q d inside (inr there) =
        let i : q < length pipes = omega (arith, length-set pipes pipe new) in
        let old = are.each q d i in
        subst (IsPipe S (J ++ v ∷ []) q) (sym (get_or-set_other pipes pipe q new d there))
        (record {
          number = old.number;
          of_setup = old.of_setup;
          stands =
              subst (StandsFor (slice_index_or pipes q d).memory)
              (sym (visits_to-push_other S q J v (λ e. there (sym e ∙ same)))) old.stands;
        })

-- one pipe more, before any visit
pub pipes-more : {S : SetupView} (pipes : List SetupPipeView) (m : SetupPipeView) (more : List SetupPipeView) (n : ℕ)
    → ((pipe : ℕ) (d : SetupPipeView) → pipe < length pipes → IsPipe S [] pipe (slice_index_or pipes pipe d))
    → length pipes ≡ n → more ≡ pipes ++ m ∷ [] → IsPipe S [] n m
    → (pipe : ℕ) (d : SetupPipeView) → pipe < length more → IsPipe S [] pipe (slice_index_or more pipe d)
pipes-more {S} pipes m more n each count is here pipe d within =
    subst (λ (ps : List SetupPipeView). IsPipe S [] pipe (slice_index_or ps pipe d)) (sym is)
    (go (cases_lt pipe n))
  where
    inside : pipe < length pipes + 1
    inside = let l : length more ≡ length pipes + 1 = ap length is ∙ length_push pipes m in omega (arith, l)

    go : (pipe < n) ⊎ (n ≤ pipe) → IsPipe S [] pipe (slice_index_or (pipes ++ m ∷ []) pipe d)
    go (inl before) =
        let low : pipe < length pipes = omega (arith, count) in
        subst (IsPipe S [] pipe) (sym (get_or_append_left pipes (m ∷ []) d pipe low)) (each pipe d low)
    go (inr last) =
        let at : pipe ≡ length pipes = omega (arith, count, inside) in
        subst (λ k. IsPipe S [] k (slice_index_or (pipes ++ m ∷ []) k d)) (sym at)
        (subst (IsPipe S [] (length pipes)) (sym (get_or_push pipes m d (length pipes) refl)) (subst (λ k. IsPipe S [] k m) (sym count) here))
