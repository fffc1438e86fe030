-- The pipes of a core from one of its visits to the next: those of other cores don't reach them.
use Rattle.std.proofs.Common.{◌≡◌, ◌≢◌, ◌⊎◌, inl, inr, ℕ, zero, suc, ◌+◌, ◌<◌, ◌≤◌, ◌==◌, Bool, true, false, cond, ◌&&◌, List, [], ◌∷◌, ◌++◌, length, map, filter, Some, slice_get, slice_set, refl, sym, ap, ap₂, ◌∙◌, subst, arith, add-zero, eq-eqb, eqb-true}
use Rattle.std.specs.List.{AllZip, range_with_len}
use Rattle.std.proofs.lemmas.Bool.{and_from, and_right, ne_eqb, cases_eq}
use Rattle.std.proofs.lemmas.List.{length_push}
use Rattle.mn_base.specs.Among.{Among}
use Rattle.pipe.specs.declared.step.Step.{Step}
use Rattle.pipe.specs.declared.step.Step.TheVariants.{Lost, Full, Pass}
use Rattle.pipe.specs.Finishes.{has_passed}
use Rattle.pipe.specs.PipeView.{StandsFor}
use Rattle.journal.specs.declared.visit.Visit.{Visit}
use Rattle.journal.specs.SetupView.{SetupView}
use Rattle.journal.specs.Steps.{past_visit, visits_to}
use Rattle.journal.specs.IsPipe.{SetupPipeView, IsPipe}
use Rattle.parcel.specs.declared.counts.PipeCounts.{PipeCounts}
use Rattle.parcel.specs.Owners.{owner_of, own_pipes}
use Rattle.parcel.specs.Counts.{has_lost, has_found_full, visit_count, counts_of}
use Rattle.core_loop.specs.Work.{OwnPipesView, HaveRun}
use Rattle.parcel.specs.Counts.{counted}
use Rattle.mn_base.proofs.Members.{Among-filter, Among-from-filter}
use Rattle.journal.proofs.Packets.{among-get}
use Rattle.core_loop.proofs.Kept.{filter-skip, filter-last}

-- visits to other pipes don't reach this one
pub visits_to-skip : (S : SetupView) (pipe : ℕ) (J K : List Visit) → ((u : Visit) → Among u K → u.pipe ≢ pipe)
    → visits_to S pipe (J ++ K) ≡ visits_to S pipe J
visits_to-skip S pipe J K others =
    ap (map (past_visit S)) (filter-skip (λ (u : Visit). u.pipe == pipe) J K (λ u a. ne_eqb u.pipe pipe (others u a)))

visit_count-skip : (has : Step → Bool) (pipe : ℕ) (J K : List Visit) → ((u : Visit) → Among u K → u.pipe ≢ pipe)
    → visit_count has pipe (J ++ K) ≡ visit_count has pipe J
visit_count-skip has pipe J K others =
    ap length (filter-skip (λ (v : Visit). (v.pipe == pipe) && has v.step) J K none)
  where
    none : (u : Visit) → Among u K → ((u.pipe == pipe) && has u.step) ≡ false
    none u a = ap (λ (b : Bool). b && has u.step) (ne_eqb u.pipe pipe (others u a))

-- counts of one pipe are the same where their numbers are
counts_equal : {pipe p q l m f g : ℕ} → p ≡ q → l ≡ m → f ≡ g
    → ◌≡◌ {A = PipeCounts} (record { pipe = pipe; passed = p; lost = l; full = f }) (record { pipe = pipe; passed = q; lost = m; full = g })
counts_equal a b c = cc

-- a list of pipes, place by place
zip-all : {A B : Type 0} (R Q : A → B → Type 0) (xs : List A) (ys : List B) → ((x : A) (y : B) → Among x xs → R x y → Q x y)
    → AllZip R xs ys → AllZip Q xs ys
zip-all R Q [] [] each z = z
zip-all R Q [] (y ∷ ys) each z = z
zip-all R Q (x ∷ xs) [] each z = z
zip-all R Q (x ∷ xs) (y ∷ ys) each z = (each x y (inl refl) z.0, zip-all R Q xs ys (λ a b m r. each a b (inr m) r) z.1)

map-same : {A B : Type 0} (f g : A → B) (xs : List A) → ((x : A) → Among x xs → f x ≡ g x) → map f xs ≡ map g xs
map-same f g [] each = refl
map-same {A} {B} f g (x ∷ xs) each =
    ap₂ (λ (y : B) (ys : List B). y ∷ ys) (each x (inl refl)) (map-same f g xs (λ a m. each a (inr m)))

-- a number of a range is in it
in-range : (from count n : ℕ) → from ≤ n → n < from + count → Among n (range_with_len from count)
in-range from zero n low high = absurd (omega (arith, low, high))
in-range from (suc count) n low high =
    go (cases_eq from n) (λ other. in-range (from + 1) count n (omega (arith, low, other)) (omega (arith, high)))
  where
    go : (from ≡ n) ⊎ (from ≢ n) → (from ≢ n → Among n (range_with_len (from + 1) count)) → Among n (from ∷ range_with_len (from + 1) count)
    go (inl e) deeper = inl e
    go (inr other) deeper = inr (deeper other)

-- an own pipe is among the own ones
pub own-among : (S : SetupView) (core pipe : ℕ) → owner_of S pipe ≡ core → pipe < length S.pipes → Among pipe (own_pipes S core)
own-among S core pipe owned named =
    Among-filter (λ q. owner_of S q == core) pipe (range_with_len 0 (length S.pipes))
    (in-range 0 (length S.pipes) pipe (omega arith) (omega (arith, named))) (eq-eqb _ _ owned)

pub is-own : (S : SetupView) (core pipe : ℕ) → Among pipe (own_pipes S core) → owner_of S pipe ≡ core
is-own S core pipe a =
    eqb-true _ _ (Among-from-filter (λ q. owner_of S q == core) pipe (range_with_len 0 (length S.pipes)) a).1

-- lists with the same visits to a core's pipes leave them the same
pub have_run-same : (S : SetupView) (core : ℕ) (J K : List Visit)
    → ((pipe : ℕ) → owner_of S pipe ≡ core → visits_to S pipe J ≡ visits_to S pipe K)
    → ((has : Step → Bool) (pipe : ℕ) → owner_of S pipe ≡ core → visit_count has pipe J ≡ visit_count has pipe K)
    → (own : OwnPipesView) → HaveRun S core J own → HaveRun S core K own
have_run-same S core J K visits count own h = record {
  pipes_are = zip-all (IsPipe S J) (IsPipe S K) (own_pipes S core) own.pipes still h.pipes_are;
  counts_are = h.counts_are ∙ map-same (counts_of J) (counts_of K) (own_pipes S core) same;
}
  where
    still : (pipe : ℕ) (m : SetupPipeView) → Among pipe (own_pipes S core) → IsPipe S J pipe m → IsPipe S K pipe m
    still pipe m a i = record {
      number = i.number;
      of_setup = i.of_setup;
      stands = subst (StandsFor m.memory) (visits pipe (is-own S core pipe a)) i.stands;
    }

    same : (pipe : ℕ) → Among pipe (own_pipes S core) → counts_of J pipe ≡ counts_of K pipe
    same pipe a =
        let o = is-own S core pipe a in counts_equal (count has_passed pipe o) (count has_lost pipe o) (count has_found_full pipe o)

module _ (S : SetupView) (core : ℕ) (J K : List Visit) (others : (u : Visit) → Among u K → owner_of S u.pipe ≢ core) where
  -- an own pipe is none of those that are visited
  other-pipes : (pipe : ℕ) → owner_of S pipe ≡ core → (u : Visit) → Among u K → u.pipe ≢ pipe
  other-pipes pipe own u a e = others u a (ap (owner_of S) e ∙ own)

  -- visits of other cores leave the pipes of a core as they are
  pub have_run-skip : (own : OwnPipesView) → HaveRun S core J own → HaveRun S core (J ++ K) own
  have_run-skip own h =
      have_run-same S core J (J ++ K) (λ pipe o. sym (visits_to-skip S pipe J K (other-pipes pipe o)))
      (λ has pipe o. sym (visit_count-skip has pipe J K (other-pipes pipe o))) own h

-- ---- a visit of the core reaches its pipe, and no other

-- no item stands twice
abbrev pub Differ : List ℕ → Type 0
Differ [] = Unit {0}
Differ (x ∷ xs) = ((y : ℕ) → Among y xs → x ≢ y) × Differ xs

range-late : (from count y : ℕ) → Among y (range_with_len from count) → from ≤ y
range-late from zero y a = absurd a
range-late from (suc count) y (inl e) = omega (arith, e)
range-late from (suc count) y (inr a) = let l : from + 1 ≤ y = range-late (from + 1) count y a in omega (arith, l)

range-differ : (from count : ℕ) → Differ (range_with_len from count)
range-differ from zero = tt
range-differ from (suc count) =
    ((λ y a e. let l : from + 1 ≤ y = range-late (from + 1) count y a in absurd (omega (arith, l, e))), range-differ (from + 1) count)

filter-differ : (p : ℕ → Bool) (xs : List ℕ) → Differ xs → Differ (filter p xs)
filter-differ p [] d = d
filter-differ p (x ∷ xs) d = kept (p x) (filter-differ p xs d.1)
  where
    kept : (b : Bool) → Differ (filter p xs) → Differ (cond b (x ∷ filter p xs) (filter p xs))
    kept true deeper = ((λ y a. d.0 y (Among-from-filter p y xs a).0), deeper)
    kept false deeper = deeper

pub own-differ : (S : SetupView) (core : ℕ) → Differ (own_pipes S core)
own-differ S core =
    filter-differ (λ pipe. owner_of S pipe == core) (range_with_len 0 (length S.pipes)) (range-differ 0 (length S.pipes))

-- at one index, R becomes Q; elsewhere it does so by itself
zip-set : {B : Type 0} (R Q : ℕ → B → Type 0) (xs : List ℕ) (ys : List B) (i a : ℕ) (b : B) → Differ xs → slice_get xs i ≡ Some a → Q a b
    → ((x : ℕ) (y : B) → a ≢ x → R x y → Q x y)
    → AllZip R xs ys → AllZip Q xs (slice_set ys i b)
zip-set R Q [] ys i a b differ at here others z = cc
zip-set R Q (x ∷ xs) [] i a b differ at here others z = absurd z
zip-set R Q (x ∷ xs) (y ∷ ys) zero a b differ at here others z =
    let e : x ≡ a = cc in
    (subst (λ (n : ℕ). Q n b) (sym e) here, zip-all R Q xs ys (λ n m among r. others n m (λ s. differ.0 n among (e ∙ s)) r) z.1)
zip-set R Q (x ∷ xs) (y ∷ ys) (suc i) a b differ at here others z =
    (others x y (λ s. differ.0 a (among-get xs i a at) (sym s)) z.0, zip-set R Q xs ys i a b differ.1 at here others z.1)

map-set : {B : Type 0} (f g : ℕ → B) (xs : List ℕ) (i a : ℕ) → Differ xs → slice_get xs i ≡ Some a → ((x : ℕ) → a ≢ x → f x ≡ g x)
    → slice_set (map f xs) i (g a) ≡ map g xs
map-set f g [] i a differ at others = cc
map-set f g (x ∷ xs) zero a differ at others =
    let e : x ≡ a = cc in
    ap₂ (λ y ys. y ∷ ys) (ap g (sym e)) (map-same f g xs (λ n among. others n (λ s. differ.0 n among (e ∙ s))))
map-set f g (x ∷ xs) (suc i) a differ at others =
    ap₂ (λ y ys. y ∷ ys) (others x (λ s. differ.0 a (among-get xs i a at) (sym s))) (map-set f g xs i a differ.1 at others)

module _ (J : List Visit) (v : Visit) where
  others-last : (pipe : ℕ) → v.pipe ≢ pipe → (u : Visit) → Among u (v ∷ []) → u.pipe ≢ pipe
  others-last pipe other u (inl e) same = other (ap (λ (x : Visit). x.pipe) e ∙ same)
  others-last pipe other u (inr none) same = none

  visit_count-last : (has : Step → Bool) → visit_count has v.pipe (J ++ v ∷ []) ≡ visit_count has v.pipe J + cond (has v.step) 1 0
  visit_count-last has = by (has v.step) refl
    where
      by : (b : Bool) → has v.step ≡ b → visit_count has v.pipe (J ++ v ∷ []) ≡ visit_count has v.pipe J + cond (has v.step) 1 0
      by true e =
          ap length (filter-last (λ (u : Visit). (u.pipe == v.pipe) && has u.step) J v (and_from _ _ (eq-eqb _ _ refl) e))
          ∙ length_push (filter (λ (u : Visit). (u.pipe == v.pipe) && has u.step) J) v
          ∙ ap (λ (b : Bool). visit_count has v.pipe J + cond b 1 0) (sym e)
      by false e =
          ap length (filter-skip (λ (u : Visit). (u.pipe == v.pipe) && has u.step) J (v ∷ []) none)
          ∙ sym (add-zero (visit_count has v.pipe J))
          ∙ ap (λ (b : Bool). visit_count has v.pipe J + cond b 1 0) (sym e)
        where
          none : (u : Visit) → Among u (v ∷ []) → ((u.pipe == v.pipe) && has u.step) ≡ false
          none u (inl s) = and_right _ _ (ap (λ (x : Visit). has x.step) (sym s) ∙ e)
          none u (inr n) = absurd n

  -- the counts of its pipe
  counts-last : counts_of (J ++ v ∷ []) v.pipe ≡ counted (counts_of J v.pipe) v.step
  counts-last = by v.step refl
    where
      of : (b : Step → Bool) (s : Step) → v.step ≡ s → visit_count b v.pipe (J ++ v ∷ []) ≡ visit_count b v.pipe J + cond (b s) 1 0
      of b s e = visit_count-last b ∙ ap (λ (t : Step). visit_count b v.pipe J + cond (b t) 1 0) e

      by : (s : Step) → v.step ≡ s → counts_of (J ++ v ∷ []) v.pipe ≡ counted (counts_of J v.pipe) s
      by Lost e = counts_equal (of has_passed Lost e ∙ add-zero _) (of has_lost Lost e) (of has_found_full Lost e ∙ add-zero _)
      by Full e = counts_equal (of has_passed Full e ∙ add-zero _) (of has_lost Full e ∙ add-zero _) (of has_found_full Full e)
      by (Pass exit) e =
          counts_equal (of has_passed (Pass exit) e) (of has_lost (Pass exit) e ∙ add-zero _) (of has_found_full (Pass exit) e ∙ add-zero _)

-- the pipes of a core with one more visit, to the pipe at this index
pub have_run-push : (S : SetupView) (core : ℕ) (J : List Visit) (own : OwnPipesView) (v : Visit) (index : ℕ) (m : SetupPipeView)
    → HaveRun S core J own → slice_get (own_pipes S core) index ≡ Some v.pipe → IsPipe S (J ++ v ∷ []) v.pipe m
    → HaveRun S core (J ++ v ∷ []) (record {
      pipes = slice_set own.pipes index m;
      counts = slice_set own.counts index (counted (counts_of J v.pipe) v.step);
    })
have_run-push S core J own v index m h at here = record {
  pipes_are =
      zip-set (IsPipe S J) (IsPipe S (J ++ v ∷ [])) (own_pipes S core) own.pipes index v.pipe m (own-differ S core) at here still h.pipes_are;
  counts_are =
      ap₂ (λ (l : List PipeCounts) (c : PipeCounts). slice_set l index c) h.counts_are (sym (counts-last J v))
      ∙ map-set (counts_of J) (counts_of (J ++ v ∷ [])) (own_pipes S core) index v.pipe (own-differ S core) at same;
}
  where
    still : (pipe : ℕ) (k : SetupPipeView) → v.pipe ≢ pipe → IsPipe S J pipe k → IsPipe S (J ++ v ∷ []) pipe k
    still pipe k other i = record {
      number = i.number;
      of_setup = i.of_setup;
      stands = subst (StandsFor k.memory) (sym (visits_to-skip S pipe J (v ∷ []) (others-last J v pipe other))) i.stands;
    }

    same : (pipe : ℕ) → v.pipe ≢ pipe → counts_of J pipe ≡ counts_of (J ++ v ∷ []) pipe
    same pipe other =
        sym (counts_equal
        (visit_count-skip has_passed pipe J (v ∷ []) (others-last J v pipe other))
        (visit_count-skip has_lost pipe J (v ∷ []) (others-last J v pipe other))
        (visit_count-skip has_found_full pipe J (v ∷ []) (others-last J v pipe other)))

-- the index of an own pipe, by the table
pub own-index : (S : SetupView) (core : ℕ) (J : List Visit) (own : OwnPipesView) (pipe : ℕ) → HaveRun S core J own
    → owner_of S pipe ≡ core → pipe < length S.pipes
    → (index : ℕ) × (m : SetupPipeView) × (slice_get (own_pipes S core) index ≡ Some pipe) × (slice_get own.pipes index ≡ Some m)
    × IsPipe S J pipe m
own-index S core J own pipe h owned named = found (own_pipes S core) own.pipes h.pipes_are (own-among S core pipe owned named)
  where
    found : (xs : List ℕ) (ys : List SetupPipeView) → AllZip (IsPipe S J) xs ys → Among pipe xs
        → (index : ℕ) × (m : SetupPipeView) × (slice_get xs index ≡ Some pipe) × (slice_get ys index ≡ Some m) × IsPipe S J pipe m
    found [] ys z a = absurd a
    found (x ∷ xs) [] z a = absurd z
    found (x ∷ xs) (y ∷ ys) z (inl e) = (0, y, ap Some e, refl, subst (λ (n : ℕ). IsPipe S J n y) e z.0)
    found (x ∷ xs) (y ∷ ys) z (inr a) = let f = found xs ys z.1 a in (suc f.0, f.1, f.2, f.3, f.4)
