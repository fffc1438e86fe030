-- How many elements of a list pass a test.
use Rattle.std.proofs.Common.{◌≡◌, inl, inr, ℕ, ◌+◌, Bool, true, false, cond, List, [], ◌∷◌, ◌++◌, length, filter, sum_by, refl, sym, ap, ◌∙◌, subst, arith}
use Rattle.std.specs.List.{flat_map}
use Rattle.std.proofs.lemmas.List.{length-append}
use Rattle.std.proofs.lemmas.List.Elements.{filter-append}
use Rattle.std.proofs.lemmas.List.Sums.{sum_by-cons}
use Rattle.mn_base.specs.Among.{Among}

-- a test as a number
abbrev pub as_number : Bool → ℕ
as_number b = cond b 1 0

-- how many elements of a list pass a test
abbrev pub many : {X : Type 0} → (X → Bool) → List X → ℕ
many test xs = length (filter test xs)

pub many-cons : {X : Type 0} (test : X → Bool) (x : X) (xs : List X) → many test (x ∷ xs) ≡ as_number (test x) + many test xs
many-cons test x xs = go (test x)
  where
    go : (b : Bool) → length (cond b (x ∷ filter test xs) (filter test xs)) ≡ as_number b + many test xs
    go true = omega arith
    go false = omega arith

pub many-append : {X : Type 0} (test : X → Bool) (xs ys : List X) → many test (xs ++ ys) ≡ many test xs + many test ys
many-append test xs ys = ap length (filter-append test xs ys) ∙ length-append (filter test xs) (filter test ys)

pub many-flat_map : {X Y : Type 0} (test : Y → Bool) (f : X → List Y) (xs : List X)
    → many test (flat_map f xs) ≡ sum_by (λ x. many test (f x)) xs
many-flat_map test f [] = refl
many-flat_map test f (x ∷ xs) =
    let rest = many-flat_map test f xs in
    omega (arith, rest, many-append test (f x) (flat_map f xs), sum_by-cons (λ x. many test (f x)) x xs)

-- a test that passes exactly what one of two others passes
pub many-split : {X : Type 0} (a b c : X → Bool) (xs : List X)
    → ((x : X) → Among x xs → as_number (a x) ≡ as_number (b x) + as_number (c x))
    → many a xs ≡ many b xs + many c xs
many-split a b c [] each = refl
many-split a b c (x ∷ xs) each =
    let rest = many-split a b c xs (λ y among. each y (inr among)) in
    omega (arith, rest, each x (inl refl), many-cons a x xs, many-cons b x xs, many-cons c x xs)

pub many-same : {X : Type 0} (a b : X → Bool) (xs : List X) → ((x : X) → Among x xs → a x ≡ b x) → many a xs ≡ many b xs
many-same a b [] each = refl
many-same a b (x ∷ xs) each =
    let rest = many-same a b xs (λ y among. each y (inr among)) in
    let here = ap as_number (each x (inl refl)) in
    omega (arith, rest, here, many-cons a x xs, many-cons b x xs)

-- a test that nothing passes
pub many-none : {X : Type 0} (test : X → Bool) (xs : List X) → ((x : X) → Among x xs → test x ≡ true → ⊥) → many test xs ≡ 0
many-none test [] none = refl
many-none test (x ∷ xs) none =
    let rest = many-none test xs (λ y among. none y (inr among)) in
    let here = go (test x) refl in
    omega (arith, rest, here, many-cons test x xs)
  where
    go : (b : Bool) → test x ≡ b → as_number (test x) ≡ 0
    go true is = absurd (none x (inl refl) is)
    go false is = ap as_number is

-- no element stands twice
abbrev pub AllDiffer : {X : Type 0} → List X → Type 0
AllDiffer [] = Unit {0}
AllDiffer (x ∷ xs) = (Among x xs → ⊥) × AllDiffer xs

-- where one element alone can pass, it counts as its test says
pub many-one : {X : Type 0} (test : X → Bool) (x : X) (xs : List X) → AllDiffer xs → Among x xs
    → ((y : X) → Among y xs → test y ≡ true → y ≡ x)
    → many test xs ≡ as_number (test x)
many-one test x [] differ among only = absurd among
many-one {X} test x (y ∷ ys) differ (inl same) only =
    let none = many-none test ys (λ z later passes. differ.0 (subst (λ (w : X). Among w ys) (only z (inr later) passes ∙ sym same) later)) in
    let here = ap (λ w. as_number (test w)) same in
    omega (arith, none, here, many-cons test y ys)
many-one {X} test x (y ∷ ys) differ (inr later) only =
    let rest = many-one test x ys differ.1 later (λ z among passes. only z (inr among) passes) in
    let here = go (test y) refl in
    omega (arith, rest, here, many-cons test y ys)
  where
    go : (b : Bool) → test y ≡ b → as_number (test y) ≡ 0
    go true is = absurd (differ.0 (subst (λ (w : X). Among w ys) (sym (only y (inl refl) is)) later))
    go false is = ap as_number is

-- sums of functions that agree on the list
pub sum_by-same : {X : Type 0} (f g : X → ℕ) (xs : List X) → ((x : X) → Among x xs → f x ≡ g x) → sum_by f xs ≡ sum_by g xs
sum_by-same f g [] each = refl
sum_by-same f g (x ∷ xs) each =
    let rest = sum_by-same f g xs (λ y among. each y (inr among)) in
    omega (arith, rest, each x (inl refl), sum_by-cons f x xs, sum_by-cons g x xs)

pub sum_by-zero : {X : Type 0} (f : X → ℕ) (xs : List X) → ((x : X) → Among x xs → f x ≡ 0) → sum_by f xs ≡ 0
sum_by-zero f [] each = refl
sum_by-zero f (x ∷ xs) each =
    let rest = sum_by-zero f xs (λ y among. each y (inr among)) in
    omega (arith, rest, each x (inl refl), sum_by-cons f x xs)

pub sum_by-plus : {X : Type 0} (f g h : X → ℕ) (xs : List X) → ((x : X) → f x ≡ g x + h x) → sum_by f xs ≡ sum_by g xs + sum_by h xs
sum_by-plus f g h [] each = refl
sum_by-plus f g h (x ∷ xs) each =
    let rest = sum_by-plus f g h xs each in
    omega (arith, rest, each x, sum_by-cons f x xs, sum_by-cons g x xs, sum_by-cons h x xs)
