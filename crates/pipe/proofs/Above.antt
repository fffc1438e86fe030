-- The members of a list above a moment.
use Rattle.std.proofs.Common.{◌≡◌, ℕ, ◌+◌, ◌<◌, ◌≤◌, Bool, true, false, cond, nat_lt, List, [], ◌∷◌, ◌++◌, length, length-append, get_or, refl, ap, sym, ◌∙◌, arith}
use Rattle.std.specs.List.{All, filter}
use Rattle.std.specs.List.Sorted.{IsNonDecreasing}
use Rattle.std.proofs.lemmas.Bool.{lt-ltb, le-ltb, ltb-true, ltb-false}
use Rattle.std.proofs.lemmas.List.Elements.{All-head, All-tail, All-weaker, filter-append, filter_passes}
use Rattle.pipe.specs.Finishes.{above}

-- a test that each element passes keeps the list
pub filter-all : (test : ℕ → Bool) (xs : List ℕ) → All (λ x. test x ≡ true) xs → filter test xs ≡ xs
filter-all test [] passes = refl
filter-all test (x ∷ xs) passes =
    rw (All-head (λ y. test y ≡ true) x xs passes)
    (ap (λ ys. x ∷ ys) (filter-all test xs (All-tail (λ y. test y ≡ true) x xs passes)))

-- where the list doesn't fall and its first is above `now`, all of it is
pub above-rising : (now first : ℕ) (xs : List ℕ) → IsNonDecreasing xs → first ≡ get_or xs 0 first → now < first → xs ≡ above now xs
above-rising now first [] rising is late = refl
above-rising now first (x ∷ xs) rising is late =
    sym (filter-all (λ y. nat_lt now y) (x ∷ xs)
    (λ k d in'. let least : x ≤ get_or (x ∷ xs) k d = rising 0 k d (omega arith) in' in lt-ltb now (get_or (x ∷ xs) k d) (omega arith)))

-- what is above x is not touched by taking out what is not above a lower moment
pub above-above : (x now : ℕ) (xs : List ℕ) → now ≤ x → above x (above now xs) ≡ above x xs
above-above x now [] low = refl
above-above x now (y ∷ ys) low = go (nat_lt now y) refl (above-above x now ys low)
  where
    go : (b : Bool) → nat_lt now y ≡ b → above x (above now ys) ≡ above x ys
        → above x (cond b (y ∷ above now ys) (above now ys)) ≡ above x (y ∷ ys)
    go true is rest = ap (λ zs. cond (nat_lt x y) (y ∷ zs) zs) rest
    go false is rest =
        let past : y ≤ now = ltb-false now y is in
        rw (le-ltb x y (omega arith)) rest

-- two lists that agree above a moment agree above each later one
pub above-later : (x now : ℕ) (xs ys : List ℕ) → now ≤ x → above now xs ≡ above now ys → above x xs ≡ above x ys
above-later x now xs ys low same =
    sym (above-above x now xs low) ∙ ap (λ zs. above x zs) same ∙ above-above x now ys low

-- each is above it
pub all-above : (now : ℕ) (xs : List ℕ) → All (λ x. now < x) (above now xs)
all-above now xs = All-weaker (λ x. nat_lt now x ≡ true) (λ x. now < x) (λ x. ltb-true now x) (above now xs) (filter_passes (λ x. nat_lt now x) xs)

-- one more finish counts exactly at the moments before it
pub length-above-push : (x now : ℕ) (xs : List ℕ) (y : ℕ) → now ≤ x
    → length (above x (xs ++ above now (y ∷ []))) ≡ length (above x xs) + cond (nat_lt x y) 1 0
length-above-push x now xs y low =
    ap length (filter-append (λ z. nat_lt x z) xs (above now (y ∷ [])))
    ∙ length-append (above x xs) (above x (above now (y ∷ [])))
    ∙ ap (λ zs. length (above x xs) + length zs) (above-above x now (y ∷ []) low)
    ∙ ap (λ n. length (above x xs) + n) (one (nat_lt x y))
  where
    one : (b : Bool) → length (cond b (y ∷ []) []) ≡ cond b 1 0
    one true = refl
    one false = refl

-- no more are above a moment than there are
pub length-above : (now : ℕ) (xs : List ℕ) → length (above now xs) ≤ length xs
length-above now [] = omega arith
length-above now (y ∷ ys) = go (nat_lt now y) (length-above now ys)
  where
    go : (b : Bool) → length (above now ys) ≤ length ys → length (cond b (y ∷ above now ys) (above now ys)) ≤ length (y ∷ ys)
    go true rest = omega arith
    go false rest = omega arith
