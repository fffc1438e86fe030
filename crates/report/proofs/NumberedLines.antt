-- Numbered lines, one by one.
use Rattle.std.proofs.Common.{◌≡◌, ℕ, suc, ◌+◌, ◌<◌, List, [], ◌∷◌, ◌++◌, length, take, get_or, sym, ap, ◌∙◌, arith, append_assoc, add-zero}
use Rattle.std.proofs.lemmas.List.{take_more, length-take-le, append-nil}
use Rattle.report.specs.Report.{numbered_lines}

module _ {X : Type 0} (line_of : ℕ → X → List ℕ) where
  lines-push : (n : ℕ) (xs : List X) (x : X)
      → numbered_lines line_of n (xs ++ x ∷ []) ≡ numbered_lines line_of n xs ++ line_of (n + length xs) x
  lines-push n [] x = append-nil (line_of n x) ∙ ap (λ m. line_of m x) (sym (add-zero n))
  lines-push n (y ∷ xs) x =
      let here : (n + 1) + length xs ≡ n + suc (length xs) = omega arith in
      ap (λ l. line_of n y ++ l) (lines-push (n + 1) xs x)
      ∙ sym (append_assoc (line_of n y) (numbered_lines line_of (n + 1) xs) (line_of ((n + 1) + length xs) x))
      ∙ ap (λ m. (line_of n y ++ numbered_lines line_of (n + 1) xs) ++ line_of m x) here

  -- one more, whose number is its place
  pub lines_next : (xs : List X) (i : ℕ) (d : X) (before now now' : List ℕ) → i < length xs
      → now ≡ before ++ numbered_lines line_of 0 (take i xs) → now' ≡ now ++ line_of i (get_or xs i d)
      → now' ≡ before ++ numbered_lines line_of 0 (take (i + 1) xs)
  lines_next xs i d before now now' within so_far is =
      let front : length (take i xs) ≡ i = length-take-le i xs (omega arith) in
      let number : i ≡ 0 + length (take i xs) = omega arith in
      is ∙ ap (λ l. l ++ line_of i (get_or xs i d)) so_far
      ∙ append_assoc before (numbered_lines line_of 0 (take i xs)) (line_of i (get_or xs i d))
      ∙ ap (λ m. before ++ (numbered_lines line_of 0 (take i xs) ++ line_of m (get_or xs i d))) number
      ∙ ap (λ l. before ++ l) (sym (lines-push 0 (take i xs) (get_or xs i d)))
      ∙ ap (λ ys. before ++ numbered_lines line_of 0 ys) (sym (take_more xs i d within))
