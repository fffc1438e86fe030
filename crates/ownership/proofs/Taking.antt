-- What is taken out of the pipes that a core may take, one by one.
use Rattle.std.proofs.Common.{◌≡◌, ◌⊎◌, inl, inr, ⊎_elim, ℕ, Bool, true, false, not, List, Option, Some, None, is_some, refl, ap, ◌∙◌, subst, true≢false}
use Rattle.std.proofs.lemmas.Bool.{cases_eq, false≢true}
use Rattle.mn_base.specs.Among.{Among}
use Rattle.ownership.specs.Owners.{IsFree}
use Rattle.ownership.specs.Turning.{AreEmpty, PopsLeast, FindsNone, FindsLeast}

-- what `is_none` answers
pub none_from : (o : Option ℕ) (b : Bool) → is_some o ≡ not b → b ≡ true → o ≡ None
none_from None b e is = refl
none_from (Some c) b e is = absurd (true≢false (e ∙ ap not is))

pub not_none : (o : Option ℕ) (b : Bool) → is_some o ≡ not b → b ≡ false → o ≡ None → ⊥
not_none None b e is none = false≢true (e ∙ ap not is)
not_none (Some c) b e is none = cc

-- what was taken out so far has an owner
pub record OwnedSoFar (owners : List (Option ℕ)) (start now : List ℕ) : Type 0 where
  pub gone : (k : ℕ) → Among k start → Among k now ⊎ (IsFree owners k → ⊥)
  pub left : (k : ℕ) → Among k now → Among k start

pub none_gone : (owners : List (Option ℕ)) (start : List ℕ) → OwnedSoFar owners start start
none_gone owners start = record { gone = λ k there. inl there; left = λ k there. there }

pub owned_gone : (owners : List (Option ℕ)) (start now new : List ℕ) (pipe : ℕ) → OwnedSoFar owners start now → PopsLeast now pipe new
    → (IsFree owners pipe → ⊥) → OwnedSoFar owners start new
owned_gone owners start now new pipe so_far pops owned = record {
  gone = λ k there.
      ⊎_elim
      (λ (still : Among k now).
      ⊎_elim
      (λ (same : k ≡ pipe). inr (λ free. owned (subst (IsFree owners) same free)))
      (λ (other : k ≡ pipe → ⊥). inl ((pops.rest k).1 (still, other)))
      (cases_eq k pipe))
      (λ has. inr has)
      (so_far.gone k there);
  left = λ k there. so_far.left k ((pops.rest k).0 there).0;
}

pub least_taken : (owners : List (Option ℕ)) (start now new : List ℕ) (pipe : ℕ) → OwnedSoFar owners start now → PopsLeast now pipe new
    → IsFree owners pipe → FindsLeast owners start pipe new
least_taken owners start now new pipe so_far pops free = record {
  there = so_far.left pipe pops.there;
  free = free;
  least = λ k there is_free.
      ⊎_elim (λ (still : Among k now). pops.least k still) (λ (has : IsFree owners k → ⊥). absurd (has is_free)) (so_far.gone k there);
  old_ones = λ k there. so_far.left k ((pops.rest k).0 there).0;
  kept = λ k there is_free other.
      ⊎_elim
      (λ (still : Among k now). (pops.rest k).1 (still, other))
      (λ (has : IsFree owners k → ⊥). absurd (has is_free))
      (so_far.gone k there);
}

pub none_taken_out : (owners : List (Option ℕ)) (start now new : List ℕ) → OwnedSoFar owners start now → AreEmpty now new
    → FindsNone owners start new
none_taken_out owners start now new so_far empty = record {
  none_free = λ k there free.
      ⊎_elim
      (λ (still : Among k now). subst (Among k) empty.before still)
      (λ (has : IsFree owners k → ⊥). has free)
      (so_far.gone k there);
  none_left = empty.after;
}
