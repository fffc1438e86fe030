-- Words of a GML text: runs of letters, digits and the bytes `_ + - .`, and their kinds.
use Rattle.std.specs.Prelude.{ℕ, ◌==◌, Bool, true, false, ◌&&◌, ◌||◌, not, nat_le, nat_lt, List, [], ◌∷◌, length, drop, Option, Some, None, if◌then◌else◌, count_by, take_while}
use Rattle.std.specs.List.{list_all, list_any, prefix_len}
use Rattle.mn_base.specs.Decimal.{is_digit}
use Rattle.gml_lex.specs.declared.kinds.TokenKind.{TokenKind}
use Rattle.gml_lex.specs.declared.kinds.TokenKind.TheVariants as kind

-- `A` to `Z` and `a` to `z`
abbrev pub is_letter : ℕ → Bool
is_letter b = (nat_le 65 b && nat_le b 90) || (nat_le 97 b && nat_le b 122)

-- a letter, a digit or `_`
abbrev pub is_key_byte : ℕ → Bool
is_key_byte b = is_letter b || is_digit b || b == 95

-- `+` or `-`
abbrev pub is_sign : ℕ → Bool
is_sign b = b == 43 || b == 45

abbrev pub is_point : ℕ → Bool
is_point b = b == 46

abbrev pub is_word_byte : ℕ → Bool
is_word_byte b = is_key_byte b || is_sign b || is_point b

-- neither `E` nor `e`
abbrev pub isnt_e : ℕ → Bool
isnt_e b = not (b == 69 || b == 101)

-- a letter, then letters, digits and `_`
abbrev pub is_key : List ℕ → Bool
is_key [] = false
is_key (b ∷ bs) = is_letter b && list_all is_key_byte bs

-- what follows an optional sign
abbrev pub unsigned : List ℕ → List ℕ
unsigned [] = []
unsigned (b ∷ bs) = if is_sign b then bs else (b ∷ bs)

-- one or more digits
abbrev pub are_digits : List ℕ → Bool
are_digits bs = nat_lt 0 (length bs) && list_all is_digit bs

-- an optional sign and one or more digits
abbrev pub is_integer : List ℕ → Bool
is_integer word = are_digits (unsigned word)

abbrev pub is_digit_or_point : ℕ → Bool
is_digit_or_point b = is_digit b || is_point b

-- digits with at most one point among, before or after them, and at least one digit
abbrev pub is_mantissa : List ℕ → Bool
is_mantissa bs = list_all is_digit_or_point bs && nat_le (count_by is_point bs) 1 && list_any is_digit bs

-- nothing, or a byte (an `E` or `e`) and then an integer
abbrev pub is_exponent : List ℕ → Bool
is_exponent [] = true
is_exponent (e ∷ bs) = is_integer bs

-- a mantissa up to the first `E` or `e`, and an exponent from there on
abbrev pub is_scientific : List ℕ → Bool
is_scientific bs = is_mantissa (take_while isnt_e bs) && is_exponent (drop (prefix_len isnt_e bs) bs)

-- an optional sign, a mantissa and an optional exponent
abbrev pub is_real : List ℕ → Bool
is_real word = is_scientific (unsigned word)

-- the first kind that a word is of
unfoldable pub kind_of_word : List ℕ → Option TokenKind
kind_of_word word =
    if is_key word then Some kind.Key else
    (if is_integer word then Some kind.Integer else
    (if is_real word then Some kind.Real else None))
