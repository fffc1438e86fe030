-- What stands at an index of a list that was pushed to.
use Rattle.std.proofs.Common.{◌≡◌, ◌⊎◌, inl, inr, ⊎_elim, ℕ, zero, suc, List, [], ◌∷◌, ◌++◌, length, Some, refl, ap}
use Rattle.std.specs.Prelude.{slice_get}

-- what stood there, or, at the end, what was pushed
pub get-push : {X : Type 0} (xs : List X) (x y : X) (i : ℕ) → slice_get (xs ++ x ∷ []) i ≡ Some y
    → (slice_get xs i ≡ Some y) ⊎ ((i ≡ length xs) × (x ≡ y))
get-push [] x y zero e = inr (refl, cc)
get-push [] x y (suc i) e = cc
get-push (z ∷ xs) x y zero e = inl e
get-push (z ∷ xs) x y (suc i) e = ⊎_elim (λ o. inl o) (λ p. inr (ap suc p.0, p.1)) (get-push xs x y i e)
