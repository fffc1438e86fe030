-- No pipe has more outcomes than visits.
use Rattle.std.proofs.Common.{◌≡◌, ℕ, ◌<◌, ◌≤◌, ◌==◌, Bool, true, false, cond, ◌&&◌, List, [], ◌∷◌, length, filter, refl, sym, ◌∙◌, arith}
use Rattle.std.proofs.lemmas.Bool.{and_parts}
use Rattle.std.proofs.lemmas.List.{length-map}
use Rattle.pipe.specs.declared.step.Step.{Step}
use Rattle.pipe.specs.Finishes.{has_passed}
use Rattle.journal.specs.declared.visit.Visit.{Visit}
use Rattle.journal.specs.SetupView.{SetupView}
use Rattle.journal.specs.Steps.{past_visit, visits_to}
use Rattle.parcel.specs.Counts.{has_lost, has_found_full, visit_count, counts_of}
use Rattle.core_loop.specs.Work.{IsBelow}

-- a stronger test is passed by no more
fewer : {X : Type 0} (p q : X → Bool) (xs : List X) → ((x : X) → p x ≡ true → q x ≡ true) → length (filter p xs) ≤ length (filter q xs)
fewer p q [] both = omega arith
fewer {X} p q (x ∷ xs) both = go (p x) refl (q x) refl (fewer p q xs both)
  where
    go : (a : Bool) → p x ≡ a → (b : Bool) → q x ≡ b → length (filter p xs) ≤ length (filter q xs)
        → length (cond a (x ∷ filter p xs) (filter p xs)) ≤ length (cond b (x ∷ filter q xs) (filter q xs))
    go true e true f l = omega (arith, l)
    go true e false f l = (let c : true ≡ false = sym (both x e) ∙ f in cc)
    go false e true f l = omega (arith, l)
    go false e false f l = l

module _ (S : SetupView) (J : List Visit) (pipe most : ℕ) (few : length (visits_to S pipe J) < most) where
  below : (has : Step → Bool) → visit_count has pipe J < most
  below has =
      let l : length (filter (λ (v : Visit). (v.pipe == pipe) && has v.step) J) ≤ length (filter (λ (v : Visit). v.pipe == pipe) J) =
      fewer (λ (v : Visit). (v.pipe == pipe) && has v.step) (λ (v : Visit). v.pipe == pipe) J (λ v e. (and_parts _ _ e).0) in
      omega (arith, l, few, length-map (filter (λ (v : Visit). v.pipe == pipe) J) (past_visit S))

  -- each of its counts is below what its visits are
  pub counts-below : IsBelow (counts_of J pipe) most
  counts-below = record { passed = below has_passed; lost = below has_lost; full = below has_found_full }
