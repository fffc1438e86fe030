-- The earlier of two ticks, each of them the least with some property.
use Rattle.std.proofs.Common.{◌≡◌, ◌⊎◌, inl, inr, ⊎_elim, ℕ, ◌<◌, ◌≤◌, List, [], ◌∷◌, Option, Some, None, min, slice_get, refl, subst, arith}
use Rattle.std.specs.Prelude.{◌↔◌, option_map}
use Rattle.std.proofs.lemmas.Bool.{cases_lt}
use Rattle.mn_base.specs.declared.due.Due.{Due}
use Rattle.deadline_heap.specs.Canonical.{IsCanonical}
use Rattle.deadline_heap.proofs.Leads.{first_is_least}
use Rattle.core_loop.specs.Trading.{IsLeastBy}
use Rattle.core_loop.specs.Handing.{earlier_of, IsDueTick}

-- it is the least with the one property or the other
pub least-both : (P Q : ℕ → Type 0) (a b : Option ℕ) → IsLeastBy P a → IsLeastBy Q b → IsLeastBy (λ t. P t ⊎ Q t) (earlier_of a b)
least-both P Q None None l m = λ t h. ⊎_elim (λ p. l t p) (λ q. m t q) h
least-both P Q None (Some b) l m = (inr m.0, λ t h. ⊎_elim (λ p. absurd (l t p)) (λ q. m.1 t q) h)
least-both P Q (Some a) None l m = (inl l.0, λ t h. ⊎_elim (λ p. l.1 t p) (λ q. absurd (m t q)) h)
least-both P Q (Some a) (Some b) l m = (which (cases_lt a b), bound)
  where
    which : (a < b) ⊎ (b ≤ a) → P (min a b) ⊎ Q (min a b)
    which (inl below) = inl (subst P (let e : a ≡ min a b = omega (arith, below) in e) l.0)
    which (inr above) = inr (subst Q (let e : b ≡ min a b = omega (arith, above) in e) m.0)

    bound : (t : ℕ) → P t ⊎ Q t → min a b ≤ t
    bound t (inl p) = let k : a ≤ t = l.1 t p in omega (arith, k)
    bound t (inr q) = let k : b ≤ t = m.1 t q in omega (arith, k)

-- the property may be said otherwise
pub least-as : (P Q : ℕ → Type 0) (a : Option ℕ) → ((t : ℕ) → P t ↔ Q t) → IsLeastBy P a → IsLeastBy Q a
least-as P Q None same l = λ t q. l t ((same t).1 q)
least-as P Q (Some a) same l = ((same a).0 l.0, λ t q. l.1 t ((same t).1 q))

-- the first visit that is due has the least tick
pub heap-least : (heap : List Due) → IsCanonical heap → IsLeastBy (IsDueTick heap) (option_map (λ due. due.tick) (slice_get heap 0))
heap-least [] c = λ t m. absurd m.1
heap-least (x ∷ heap) c = ((x, inl refl, refl), λ t m. subst (λ (u : ℕ). x.tick ≤ u) m.2 (first_is_least x heap c m.0 m.1))
