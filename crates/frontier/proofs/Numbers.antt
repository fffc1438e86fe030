-- Lists that grow by one element: tests of them, and what passes a test among the numbers below n.
use Rattle.std.proofs.Common.{◌≡◌, ℕ, suc, ◌+◌, ◌<◌, ◌≤◌, ◌||◌, All, Bool, true, false, cond, List, [], ◌∷◌, ◌++◌, length, take, get_or, filter, refl, sym, ◌∙◌, ap, subst, arith}
use Rattle.std.specs.List.{list_any, range_with_len}
use Rattle.std.proofs.lemmas.List.{take_more, map-id}
use Rattle.std.proofs.lemmas.List.Elements.{filter-append, All-cons}
use Rattle.std.proofs.lemmas.List.Folds.{list_any-append}
use Rattle.std.proofs.lemmas.List.FromFn.{map-range_with_len_more, length-range_with_len, get_or-range_with_len}

pub or_false : (b : Bool) → (b || false) ≡ b
or_false true = refl
or_false false = refl

-- some of the first i + 1 elements passes where one of the first i does, or the next one
pub list_any-take_more : {X : Type 0} (p : X → Bool) (xs : List X) (i : ℕ) (d : X) → i < length xs
    → list_any p (take (i + 1) xs) ≡ (list_any p (take i xs) || p (get_or xs i d))
list_any-take_more p xs i d within =
    ap (list_any p) (take_more xs i d within) ∙ list_any-append p (take i xs) (get_or xs i d ∷ [])
    ∙ ap (λ b. list_any p (take i xs) || b) (or_false (p (get_or xs i d)))

-- the numbers below n + 1 are those below n, and n
pub range_more : (n : ℕ) → range_with_len 0 (n + 1) ≡ range_with_len 0 n ++ n ∷ []
range_more n =
    sym (map-id (range_with_len 0 (n + 1))) ∙ map-range_with_len_more (λ k. k) 0 n n (omega arith)
    ∙ ap (λ l. l ++ n ∷ []) (map-id (range_with_len 0 n))

-- of the numbers below n + 1 those below n that pass do, and n if it passes
pub filter_range_more : (p : ℕ → Bool) (n : ℕ) → filter p (range_with_len 0 (n + 1)) ≡ filter p (range_with_len 0 n) ++ cond (p n) (n ∷ []) []
filter_range_more p n = ap (filter p) (range_more n) ∙ filter-append p (range_with_len 0 n) (n ∷ [])

append-nil : {X : Type 0} (xs : List X) → xs ++ [] ≡ xs
append-nil [] = refl
append-nil (x ∷ xs) = ap (λ l. x ∷ l) (append-nil xs)

-- n passes, so it stands after those below n that do
pub filter-range_with : (p : ℕ → Bool) (n : ℕ) → p n ≡ true → filter p (range_with_len 0 (n + 1)) ≡ filter p (range_with_len 0 n) ++ n ∷ []
filter-range_with p n passes = filter_range_more p n ∙ ap (λ (b : Bool). filter p (range_with_len 0 n) ++ cond b (n ∷ []) []) passes

-- n doesn't pass
pub filter-range_without : (p : ℕ → Bool) (n : ℕ) → p n ≡ false → filter p (range_with_len 0 (n + 1)) ≡ filter p (range_with_len 0 n)
filter-range_without p n fails =
    filter_range_more p n ∙ ap (λ (b : Bool). filter p (range_with_len 0 n) ++ cond b (n ∷ []) []) fails ∙ append-nil (filter p (range_with_len 0 n))

-- a test that no number passes
pub filter-none : (p : ℕ → Bool) (ns : List ℕ) → ((n : ℕ) → p n ≡ false) → filter p ns ≡ []
filter-none p [] none = refl
filter-none p (n ∷ ns) none = ap (λ (b : Bool). cond b (n ∷ filter p ns) (filter p ns)) (none n) ∙ filter-none p ns none

-- tests that agree
pub filter-same : (p q : ℕ → Bool) (ns : List ℕ) → ((n : ℕ) → p n ≡ q n) → filter p ns ≡ filter q ns
filter-same p q [] same = refl
filter-same p q (n ∷ ns) same =
    ap (λ (b : Bool). cond b (n ∷ filter p ns) (filter p ns)) (same n) ∙ ap (λ l. cond (q n) (n ∷ l) l) (filter-same p q ns same)

All-filter : (p : ℕ → Bool) (n : ℕ) (xs : List ℕ) → All (λ v. v < n) xs → All (λ v. v < n) (filter p xs)
All-filter p n [] all = all
All-filter p n (x ∷ xs) all = go (p x) (All-filter p n xs (λ i d within. all (suc i) d (omega arith)))
  where
    go : (b : Bool) → All (λ v. v < n) (filter p xs) → All (λ v. v < n) (cond b (x ∷ filter p xs) (filter p xs))
    go true rest = All-cons (λ v. v < n) x (filter p xs) (all 0 x (omega arith)) rest
    go false rest = rest

-- what is filtered from the numbers below n is below n
pub filter-range-below : (p : ℕ → Bool) (n : ℕ) → All (λ v. v < n) (filter p (range_with_len 0 n))
filter-range-below p n = All-filter p n (range_with_len 0 n) below
  where
    below : All (λ v. v < n) (range_with_len 0 n)
    below i d within =
        let len : length (range_with_len 0 n) ≡ n = length-range_with_len 0 n in
        let is : get_or (range_with_len 0 n) i d ≡ 0 + i = get_or-range_with_len 0 n i d (omega arith) in
        omega arith

pub All-below : (p : ℕ → Bool) (n m : ℕ) (xs : List ℕ) → xs ≡ filter p (range_with_len 0 n) → n ≤ m → All (λ v. v < m) xs
All-below p n m xs is few i d within =
    let least : get_or (filter p (range_with_len 0 n)) i d < n = filter-range-below p n i d (subst (λ ys. i < length ys) is within) in
    let same : get_or xs i d ≡ get_or (filter p (range_with_len 0 n)) i d = ap (λ ys. get_or ys i d) is in
    omega arith
