-- Lists in which no element stands twice.
use Rattle.std.proofs.Common.{◌≡◌, ◌≢◌, ℕ, zero, suc, ◌<◌, ◌≤◌, inl, inr, ⊎_elim, List, [], ◌∷◌, ◌++◌, length, take, get_or, map, refl, sym, ap, subst, arith, length-append}
use Rattle.mn_base.specs.Among.{Among}
use Rattle.mn_base.proofs.Members.{Among-append, Among-append-left, Among-append-right, Among-from-map, Among-index, split_at}
use Rattle.distill.specs.PipeCount.{AreDistinct}

pub AreDistinct-append : {X : Type 0} (xs ys : List X) → AreDistinct xs → AreDistinct ys → ((x : X) → Among x xs → Among x ys → ⊥)
    → AreDistinct (xs ++ ys)
AreDistinct-append [] ys first second apart = second
AreDistinct-append (x ∷ xs) ys first second apart = (
  (λ there. ⊎_elim (λ l. first.0 l) (λ r. apart x (inl refl) r) (Among-append x xs ys there)),
  AreDistinct-append xs ys first.1 second
      (λ z l r. apart z (inr l) r),
)

pub AreDistinct-map : {X Y : Type 0} (f : X → Y) (xs : List X) → ((a b : X) → f a ≡ f b → a ≡ b) → AreDistinct xs → AreDistinct (map f xs)
AreDistinct-map f [] one distinct = tt
AreDistinct-map {X} f (x ∷ xs) one distinct = (
  (λ there. let found = Among-from-map f (f x) xs there in distinct.0 (subst (λ (z : X). Among z xs) (one _ _ found.2) found.1)),
  AreDistinct-map f xs one distinct.1,
)

-- without one element, what remains has all the others
others : {X : Type 0} (front rest : List X) (x y : X) → Among y (front ++ x ∷ rest) → y ≢ x → Among y (front ++ rest)
others front rest x y there differs =
    ⊎_elim (λ l. Among-append-left y front rest l)
    (λ r. ⊎_elim (λ (same : x ≡ y). absurd (differs (sym same))) (λ later. Among-append-right y front rest later) r)
    (Among-append y front (x ∷ rest) there)

-- of distinct elements there are no more than in a list that has them all
pub distinct_are_no_more : {X : Type 0} (xs ys : List X) → AreDistinct xs → ((x : X) → Among x xs → Among x ys) → length xs ≤ length ys
distinct_are_no_more [] ys distinct all = omega arith
distinct_are_no_more {X} (x ∷ xs) ys distinct all =
    let s = split_at x ys (all x (inl refl)) in
    let in_others : (y : X) → Among y xs
    → Among y (s.front ++ s.rest) = λ y there. others s.front s.rest x y (subst (Among y) s.is (all y (inr there)))
    (λ same. distinct.0 (subst (λ (z : X). Among z xs) same there)) in
    let fewer = distinct_are_no_more xs (s.front ++ s.rest) distinct.1 in_others in
    let whole : length ys ≡ length (s.front ++ x ∷ s.rest) = ap length s.is in
    omega (arith, fewer, whole, length-append s.front (x ∷ s.rest), length-append s.front s.rest)

-- two such lists with the same elements are as long
pub distinct_as_long : {X : Type 0} (xs ys : List X) → AreDistinct xs → AreDistinct ys → ((x : X) → Among x xs → Among x ys)
    → ((x : X) → Among x ys → Among x xs) → length xs ≡ length ys
distinct_as_long xs ys first second there back =
    omega (arith, distinct_are_no_more xs ys first there, distinct_are_no_more ys xs second back)

-- an element doesn't stand in front of itself
pub not_before : {X : Type 0} (xs : List X) (i : ℕ) (d : X) → AreDistinct xs → i < length xs → ¬ Among (get_or xs i d) (take i xs)
not_before [] i d distinct within there = absurd (omega arith)
not_before (x ∷ xs) zero d distinct within there = there
not_before {X} (x ∷ xs) (suc i) d distinct within there =
    ⊎_elim (λ (same : x ≡ get_or xs i d). distinct.0 (subst (λ (z : X). Among z xs) (sym same) (Among-index xs i d (omega arith))))
    (λ later. not_before xs i d distinct.1 (omega arith) later) there
