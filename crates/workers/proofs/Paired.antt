-- What stands at an index of two lists that are gone through together.
use Rattle.std.proofs.Common.{◌≡◌, ℕ, ◌<◌, List, length, get_or, ap, ◌∙◌, arith}
use Rattle.std.specs.List.{zip}
use Rattle.std.proofs.lemmas.Slice.Zip.{length-zip, get_or-zip}

-- the element of each at that index
pub paired : {X Y : Type 0} (xs : List X) (ys : List Y) (n : ℕ) (x : X) (y : Y) → n < length (zip xs ys)
    → (x, y) ≡ get_or (zip xs ys) n (x, y)
    → (n < length xs) × (n < length ys) × (x ≡ get_or xs n x) × (y ≡ get_or ys n y)
paired {X = X} {Y = Y} xs ys n x y within is =
    let first : n < length xs = omega (arith, within, length-zip xs ys) in
    let second : n < length ys = omega (arith, within, length-zip xs ys) in
    let both = is ∙ get_or-zip xs ys n (x, y) first second in (
      first,
      second,
      ap (λ (p : X × Y). p.0) both,
      ap (λ (p : X × Y). p.1) both,
    )
