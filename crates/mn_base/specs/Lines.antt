-- Texts as lines. A line ends before a line feed (byte 10); the last line may lack it.
use Rattle.std.specs.Prelude.{ℕ, ◌==◌, List, [], ◌∷◌, ◌++◌, Option, None, if◌then◌else◌}
use Rattle.std.specs.Option.{option_or}

-- a byte in front of the first line
abbrev pub onto_first_line : ℕ → List (List ℕ) → List (List ℕ)
onto_first_line b [] = (b ∷ []) ∷ []
onto_first_line b (line ∷ lines) = (b ∷ line) ∷ lines

-- the lines of a text, without their line feeds
abbrev pub lines_of : List ℕ → List (List ℕ)
lines_of [] = []
lines_of (b ∷ bs) = if b == 10 then [] ∷ lines_of bs else onto_first_line b (lines_of bs)

-- the text of lines, each with a line feed after it
abbrev pub text_of_lines : List (List ℕ) → List ℕ
text_of_lines [] = []
text_of_lines (line ∷ lines) = line ++ 10 ∷ text_of_lines lines

-- the first fault of lines; that of each line is told by the lines before it and the line itself
abbrev pub first_line_fault : {F : Type 0} → (List (List ℕ) → List ℕ → Option F) → List (List ℕ) → List (List ℕ) → Option F
first_line_fault fault before [] = None
first_line_fault fault before (line ∷ lines) =
    option_or (fault before line) (first_line_fault fault (before ++ line ∷ []) lines)
