-- The least of a list's numbers, found from its front.
use Rattle.std.proofs.Common.{◌≡◌, ◌≤◌, ◌<◌, ◌+◌, ℕ, zero, suc, List, [], ◌∷◌, length, take, get_or, map, min, All, sym, ◌∙◌, ap, arith}
use Rattle.std.specs.List.{fold}
use Rattle.std.proofs.lemmas.List.Elements.{All-more}
use Rattle.std.proofs.lemmas.List.Folds.{fold-map}
use Rattle.std.proofs.lemmas.List.Sums.{fold_more}
use Rattle.mn_base.specs.Times.{base_of}

-- the least so far, with one more
pub fold-min-more : {X : Type 0} (f : X → ℕ) (first : ℕ) (xs : List X) (i : ℕ) (x : X) {least next : ℕ} → i < length xs
    → least ≡ fold min first (map f (take i xs)) → x ≡ get_or xs i x → next ≡ min least (f x)
    → next ≡ fold min first (map f (take (i + 1) xs))
fold-min-more f first xs i x within so_far read lesser =
    let whole = fold-map min f first (take (i + 1) xs) ∙ fold_more (λ b y. min b (f y)) first xs i x within in
    lesser ∙ ap (λ b. min b (f x)) (so_far ∙ fold-map min f first (take i xs))
    ∙ ap (λ y. min (fold (λ b z. min b (f z)) first (take i xs)) (f y)) read ∙ sym whole

-- what is below the least so far is below the least with one more
pub All-min-more : {X : Type 0} (f : X → ℕ) (xs : List X) (i : ℕ) (x : X) {least next : ℕ} → i < length xs
    → All (λ y. least ≤ f y) (take i xs) → x ≡ get_or xs i x → next ≡ min least (f x) → All (λ y. next ≤ f y) (take (i + 1) xs)
All-min-more f xs i x {least} {next} within so_far read lesser =
    let here : f x ≡ f (get_or xs i x) = ap f read in
    All-more (λ y. next ≤ f y) xs i x within
    (λ k d below. let before = so_far k d below in omega (arith, before, lesser))
    (omega (arith, here, lesser))

-- the least is at most each

fold-min-first : (a : ℕ) (times : List ℕ) → fold min a times ≤ a
fold-min-first a [] = omega arith
fold-min-first a (time ∷ times) = omega (arith, fold-min-first (min a time) times)

fold-min-each : (a : ℕ) (times : List ℕ) → All (λ time. fold min a times ≤ time) times
fold-min-each a [] k d within = absurd (omega arith)
fold-min-each a (time ∷ times) zero d within = omega (arith, fold-min-first (min a time) times)
fold-min-each a (time ∷ times) (suc k) d within = fold-min-each (min a time) times k d (omega arith)

pub base_is_least : (times : List ℕ) → All (λ time. base_of times ≤ time) times
base_is_least [] k d within = absurd (omega arith)
base_is_least (time ∷ times) zero d within = fold-min-first time times
base_is_least (time ∷ times) (suc k) d within = fold-min-each time times k d (omega arith)
