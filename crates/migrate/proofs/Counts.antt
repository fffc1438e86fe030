-- The counts of all pipes with one more visit.
use Rattle.std.proofs.Common.{◌≡◌, ◌≢◌, inl, inr, ℕ, zero, suc, ◌+◌, ◌<◌, ◌==◌, ◌&&◌, Bool, true, false, cond, List, [], ◌∷◌, ◌++◌, length, map, filter, slice_set, add-zero, eq-eqb, refl, sym, ap, ap₂, ◌∙◌, arith}
use Rattle.std.specs.List.{range_with_len}
use Rattle.std.proofs.lemmas.Bool.{and_from, and_right, ne_eqb}
use Rattle.std.proofs.lemmas.List.{length_push}
use Rattle.mn_base.specs.Among.{Among}
use Rattle.pipe.specs.declared.step.Step.{Step}
use Rattle.pipe.specs.declared.step.Step.TheVariants.{Lost, Full, Pass}
use Rattle.pipe.specs.Finishes.{has_passed}
use Rattle.journal.specs.declared.visit.Visit.{Visit}
use Rattle.parcel.specs.declared.counts.PipeCounts.{PipeCounts}
use Rattle.parcel.specs.Counts.{has_lost, has_found_full, visit_count, counts_of}
use Rattle.parcel.specs.Counts.{counted}
use Rattle.core_loop.proofs.Kept.{filter-skip, filter-last}

counts_equal : {pipe p q l m f g : ℕ} → p ≡ q → l ≡ m → f ≡ g
    → ◌≡◌ {A = PipeCounts} (record { pipe = pipe; passed = p; lost = l; full = f })
    (record { pipe = pipe; passed = q; lost = m; full = g })
counts_equal a b c = cc

module _ (J : List Visit) (v : Visit) where
  count-other : (has : Step → Bool) (pipe : ℕ) → v.pipe ≢ pipe → visit_count has pipe (J ++ v ∷ []) ≡ visit_count has pipe J
  count-other has pipe other = ap length (filter-skip (λ (u : Visit). (u.pipe == pipe) && has u.step) J (v ∷ []) none)
    where
      none : (u : Visit) → Among u (v ∷ []) → ((u.pipe == pipe) && has u.step) ≡ false
      none u (inl e) =
          ap (λ (b : Bool). b && has u.step) (ne_eqb u.pipe pipe (λ same. other (ap (λ (w : Visit). w.pipe) e ∙ same)))
      none u (inr n) = absurd n

  count-same : (has : Step → Bool) → visit_count has v.pipe (J ++ v ∷ []) ≡ visit_count has v.pipe J + cond (has v.step) 1 0
  count-same has = by (has v.step) refl
    where
      by : (b : Bool) → has v.step ≡ b → visit_count has v.pipe (J ++ v ∷ []) ≡ visit_count has v.pipe J + cond (has v.step) 1 0
      by true e =
          ap length (filter-last (λ (u : Visit). (u.pipe == v.pipe) && has u.step) J v (and_from _ _ (eq-eqb _ _ refl) e))
          ∙ length_push (filter (λ (u : Visit). (u.pipe == v.pipe) && has u.step) J) v
          ∙ ap (λ (b : Bool). visit_count has v.pipe J + cond b 1 0) (sym e)
      by false e =
          ap length (filter-skip (λ (u : Visit). (u.pipe == v.pipe) && has u.step) J (v ∷ []) none)
          ∙ sym (add-zero (visit_count has v.pipe J))
          ∙ ap (λ (b : Bool). visit_count has v.pipe J + cond b 1 0) (sym e)
        where
          none : (u : Visit) → Among u (v ∷ []) → ((u.pipe == v.pipe) && has u.step) ≡ false
          none u (inl s) = and_right _ _ (ap (λ (x : Visit). has x.step) (sym s) ∙ e)
          none u (inr n) = absurd n

  counts-other : (pipe : ℕ) → v.pipe ≢ pipe → counts_of J pipe ≡ counts_of (J ++ v ∷ []) pipe
  counts-other pipe other = sym (counts_equal
      (count-other has_passed pipe other) (count-other has_lost pipe other) (count-other has_found_full pipe other))

  counts-same : counted (counts_of J v.pipe) v.step ≡ counts_of (J ++ v ∷ []) v.pipe
  counts-same = sym (by v.step refl)
    where
      of : (b : Step → Bool) (s : Step) → v.step ≡ s → visit_count b v.pipe (J ++ v ∷ []) ≡ visit_count b v.pipe J + cond (b s) 1 0
      of b s e = count-same b ∙ ap (λ (t : Step). visit_count b v.pipe J + cond (b t) 1 0) e

      by : (s : Step) → v.step ≡ s → counts_of (J ++ v ∷ []) v.pipe ≡ counted (counts_of J v.pipe) s
      by Lost e = counts_equal (of has_passed Lost e ∙ add-zero _) (of has_lost Lost e) (of has_found_full Lost e ∙ add-zero _)
      by Full e = counts_equal (of has_passed Full e ∙ add-zero _) (of has_lost Full e ∙ add-zero _) (of has_found_full Full e)
      by (Pass exit) e =
          counts_equal (of has_passed (Pass exit) e) (of has_lost (Pass exit) e ∙ add-zero _)
          (of has_found_full (Pass exit) e ∙ add-zero _)

-- a list over a range, where one place takes another value
map-range : {B : Type 0} (f h : ℕ → B) (from count i : ℕ) → i < count → ((q : ℕ) → from + i ≢ q → f q ≡ h q)
    → slice_set (map f (range_with_len from count)) i (h (from + i)) ≡ map h (range_with_len from count)
map-range f h from zero i within others = absurd (omega (arith, within))
map-range f h from (suc count) zero within others =
    ap₂ (λ y ys. y ∷ ys) (ap h (add-zero from))
    (map-late f h from (from + 1) count (omega arith) (λ q l. others q (λ e. omega (arith, e, l))))
  where
    map-late : {B : Type 0} (f h : ℕ → B) (from next count : ℕ) → from < next → ((q : ℕ) → from < q → f q ≡ h q)
        → map f (range_with_len next count) ≡ map h (range_with_len next count)
    map-late f h from next zero l each = refl
    map-late f h from next (suc count) l each =
        ap₂ (λ y ys. y ∷ ys) (each next l) (map-late f h from (next + 1) count (omega (arith, l)) each)
map-range f h from (suc count) (suc i) within others =
    ap₂ (λ y ys. y ∷ ys) (others from (λ e. omega (arith, e)))
    (ap (λ (n : ℕ). slice_set (map f (range_with_len (from + 1) count)) i (h n)) (place)
    ∙ map-range f h (from + 1) count i (omega (arith, within)) (λ q e. others q (λ s. e (sym place ∙ s))))
  where
    place : from + suc i ≡ (from + 1) + i
    place = omega arith

-- the counts of all pipes with one more visit
pub counts-next : (J : List Visit) (v : Visit) (pipes : ℕ) → v.pipe < pipes
    → slice_set (map (counts_of J) (range_with_len 0 pipes)) v.pipe (counted (counts_of J v.pipe) v.step)
    ≡ map (counts_of (J ++ v ∷ [])) (range_with_len 0 pipes)
counts-next J v pipes within =
    ap (slice_set (map (counts_of J) (range_with_len 0 pipes)) v.pipe) (counts-same J v ∙ ap (counts_of (J ++ v ∷ [])) (sym here))
    ∙ map-range (counts_of J) (counts_of (J ++ v ∷ [])) 0 pipes v.pipe within (λ q e. counts-other J v q (λ s. e (here ∙ s)))
  where
    here : 0 + v.pipe ≡ v.pipe
    here = omega arith
