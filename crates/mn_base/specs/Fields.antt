-- Lines that are labels with a plain decimal after each, as `pipe 3 core 0` is of the labels `pipe ` and ` core `.
use Rattle.std.specs.Prelude.{ℕ, ◌==◌, nat_eq, List, [], ◌∷◌, ◌++◌, length, drop, take_while, Option, Some, None, if◌then◌else◌, option_map, option_and_then, decimal}
use Rattle.std.specs.List.{prefix_len, starts_with}
use Rattle.mn_base.specs.Decimal.{is_digit, decimal_of}

-- the digits that a text begins with, and what follows them
abbrev pub digits_of : List ℕ → List ℕ
digits_of text = take_while is_digit text

abbrev pub after_digits : List ℕ → List ℕ
after_digits text = drop (prefix_len is_digit text) text

-- a text that begins with the label and a plain decimal: the decimal's value, and what follows it
unfoldable pub field_of : List ℕ → List ℕ → Option (ℕ × List ℕ)
field_of label text =
    if starts_with nat_eq text label then
    (let behind = drop (length label) text in option_map (λ n. (n, after_digits behind)) (decimal_of (digits_of behind)))
    else None

-- the numbers of a line of these labels, or none where it isn't of them
abbrev pub fields_of : List (List ℕ) → List ℕ → Option (List ℕ)
fields_of [] line = if length line == 0 then Some [] else None
fields_of (label ∷ labels) line =
    option_and_then (λ field. option_map (λ numbers. field.0 ∷ numbers) (fields_of labels field.1)) (field_of label line)

-- the line of these labels and numbers
abbrev pub line_of_fields : List (List ℕ) → List ℕ → List ℕ
line_of_fields [] numbers = []
line_of_fields (label ∷ labels) [] = []
line_of_fields (label ∷ labels) (n ∷ numbers) = label ++ decimal n ++ line_of_fields labels numbers
