-- Plain decimals: texts of the digits `0` to `9`, leading zeros allowed.
use Rattle.std.specs.Prelude.{ℕ, ◌+◌, ◌-◌, ◌*◌, ◌^◌, Bool, ◌&&◌, nat_le, nat_lt, List, length, fold, Option, Some, None, if◌then◌else◌}
use Rattle.std.specs.List.{list_all}

abbrev pub is_digit : ℕ → Bool
is_digit b = nat_le 48 b && nat_le b 57

-- the value so far, with one more digit after it
abbrev pub with_digit : ℕ → ℕ → ℕ
with_digit value b = value * 10 + (b - 48)

abbrev pub number_of : List ℕ → ℕ
number_of text = fold with_digit 0 text

-- a text with a digit and nothing but digits, whose value is below 2^64
abbrev pub is_decimal : List ℕ → Bool
is_decimal text = nat_lt 0 (length text) && list_all is_digit text && nat_lt (number_of text) (2 ^ 64)

-- the value of a plain decimal below 2^64, and none of any other text
abbrev pub decimal_of : List ℕ → Option ℕ
decimal_of text = if is_decimal text then Some (number_of text) else None
