-- What becomes of one core, and of a list of cores in which one changes.
use Rattle.std.proofs.Common.{◌≡◌, ◌≢◌, ℕ, zero, suc, ◌<◌, List, [], ◌∷◌, length, Option, Some, None, slice_get, slice_set, slice_index_or, length-set, refl, sym, ap, ◌∙◌, subst, arith}
use Rattle.std.specs.Prelude.{MatchOption}
use Rattle.mn_base.specs.declared.due.Due.{Due}
use Rattle.migrate.specs.ShelvesView.{ShelfView}
use Rattle.migrate.specs.Running.{ChangesAt}

-- what is taken out of a list that begins so
pub popped-first : (old new : List Due) (r : Option Due) (x : Due) → MatchOption r ((old ≡ []) × (new ≡ [])) (λ due. old ≡ due ∷ new)
    → slice_get old 0 ≡ Some x → old ≡ x ∷ new
popped-first [] new None x m e = cc
popped-first (y ∷ old) new None x m e = (let clash : y ∷ old ≡ [] = m.0 in cc)
popped-first [] new (Some d) x m e = cc
popped-first (y ∷ old) new (Some d) x m e = cc

pub get-set-here : {X : Type 0} (xs : List X) (k : ℕ) (x : X) → k < length xs → slice_get (slice_set xs k x) k ≡ Some x
get-set-here [] k x l = absurd (omega (arith, l))
get-set-here (y ∷ ys) zero x l = refl
get-set-here (y ∷ ys) (suc k) x l = get-set-here ys k x (omega (arith, l))

pub get-set-other : {X : Type 0} (xs : List X) (k i : ℕ) (x : X) → i ≢ k → slice_get (slice_set xs k x) i ≡ slice_get xs i
get-set-other [] k i x not = refl
get-set-other (y ∷ ys) zero zero x not = absurd (not refl)
get-set-other (y ∷ ys) zero (suc i) x not = refl
get-set-other (y ∷ ys) (suc k) zero x not = refl
get-set-other (y ∷ ys) (suc k) (suc i) x not = get-set-other ys k i x (λ e. not (ap suc e))

-- what is read at an index is there
pub get-at : {X : Type 0} (xs : List X) (k : ℕ) (x : X) → k < length xs → x ≡ slice_index_or xs k x → slice_get xs k ≡ Some x
get-at [] k x l e = absurd (omega (arith, l))
get-at (y ∷ ys) zero x l e = ap Some (sym e)
get-at (y ∷ ys) (suc k) x l e = get-at ys k x (omega (arith, l)) e

pub changes-set : (at : ℕ) (Changes : ShelfView → ShelfView → Type 0) (xs : List ShelfView) (k : ℕ) (old new : ShelfView) → k ≡ at
    → k < length xs → old ≡ slice_index_or xs k old → Changes old new → ChangesAt at Changes xs (slice_set xs k new)
changes-set at Changes xs k old new is within read change = record {
  as_many = length-set xs k new;
  here = λ s t e f.
      (let one : Some s ≡ Some old = sym e ∙ ap (slice_get xs) (sym is) ∙ get-at xs k old within read in
      let two : Some t ≡ Some new = sym f ∙ ap (slice_get (slice_set xs k new)) (sym is) ∙ get-set-here xs k new within in
      let was : old ≡ s = cc in
      let now : new ≡ t = cc in
      subst (Changes s) now (subst (λ (u : ShelfView). Changes u new) was change));
  others = λ other not. get-set-other xs k other new (λ e. not (e ∙ is));
}
