-- The lines of a text that was made of lines.
use Rattle.std.proofs.Common.{◌≡◌, ◌==◌, ℕ, Bool, true, false, cond, ◌||◌, List, [], ◌∷◌, ◌++◌, refl}
use Rattle.std.specs.List.{list_any, AllByRecursion}
use Rattle.mn_base.specs.Lines.{onto_first_line, lines_of, text_of_lines}

-- no line has a line feed
abbrev pub HaveNoFeed : List (List ℕ) → Type 0
HaveNoFeed lines = AllByRecursion (λ line. list_any (λ b. b == 10) line ≡ false) lines

-- a line without a line feed, and what follows it
pub line_in_front : (line rest : List ℕ) → list_any (λ b. b == 10) line ≡ false → lines_of (line ++ 10 ∷ rest) ≡ line ∷ lines_of rest
line_in_front [] rest none = refl
line_in_front (b ∷ bs) rest none = go (b == 10) none (line_in_front bs rest)
  where
    go : (c : Bool) → (c || list_any (λ b. b == 10) bs) ≡ false
        → (list_any (λ b. b == 10) bs ≡ false → lines_of (bs ++ 10 ∷ rest) ≡ bs ∷ lines_of rest)
        → cond c ([] ∷ lines_of (bs ++ 10 ∷ rest)) (onto_first_line b (lines_of (bs ++ 10 ∷ rest))) ≡ (b ∷ bs) ∷ lines_of rest
    go true none later = cc
    go false none later = rw (later none) refl

pub lines_read_back : (lines : List (List ℕ)) → HaveNoFeed lines → lines_of (text_of_lines lines) ≡ lines
lines_read_back [] none = refl
lines_read_back (line ∷ lines) none = rw (line_in_front line (text_of_lines lines) none.0, lines_read_back lines none.1) refl
