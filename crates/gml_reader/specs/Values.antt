-- The pairs of a list, and what their values write.
use Rattle.std.specs.Prelude.{ℕ, ◌+◌, ◌-◌, ◌*◌, ◌^◌, ◌==◌, Bool, nat_le, nat_lt, List, [], ◌∷◌, length, Option, Some, None, if◌then◌else◌, find, option_map, option_and_then}
use Rattle.std.specs.List.{slice_range, slice_split}
use Rattle.std.specs.Str.{bytes_eq}
use Rattle.mn_base.specs.Decimal.{decimal_of}
use Rattle.gml_lex.specs.declared.kinds.TokenKind.{TokenKind}
use Rattle.gml_lex.specs.declared.kinds.TokenKind.TheVariants as kind
use Rattle.gml_lex.specs.declared.kinds.Token.{Token}
use Rattle.gml_lex.specs.Words.{is_point}
use Rattle.gml_reader.specs.Grammar.{Pairs, done, plain, nested}

-- one token, or the pairs of a list
pub data ValueTree : Type 0 where
  leaf : Token → ValueTree
  list : Pairs → ValueTree

pub record PairTree : Type 0 where
  pub key : Token
  pub value : ValueTree

abbrev pub pair : Token → ValueTree → PairTree
pair k v = record { key = k; value = v }

abbrev pub pairs : Pairs → List PairTree
pairs done = []
pairs (plain key value more) = pair key (leaf value) ∷ pairs more
pairs (nested key left inner right more) = pair key (list inner) ∷ pairs more

-- ---- the bytes of tokens
abbrev pub bytes_of : List ℕ → Token → List ℕ
bytes_of text token = slice_range text token.start token.end

-- a text without its quotes
abbrev pub content_of : List ℕ → Token → List ℕ
content_of text token = slice_range text (token.start + 1) (token.end - 1)

abbrev pub is_named : List ℕ → List ℕ → PairTree → Bool
is_named text name p = bytes_eq (bytes_of text p.key) name

-- the value of the first pair with this key
abbrev pub value_at : List ℕ → List ℕ → List PairTree → Option ValueTree
value_at text name ps = option_map (λ p. p.value) (find (is_named text name) ps)

-- ---- numbers
abbrev pub without_plus : List ℕ → List ℕ
without_plus [] = []
without_plus (b ∷ bs) = if b == 43 then bs else (b ∷ bs)

-- a plain decimal below 2^63
abbrev pub small_number : List ℕ → Option ℕ
small_number bytes = option_and_then (λ n. if nat_lt n (2 ^ 63) then Some n else None) (decimal_of bytes)

-- an Integer without a `-`, or a Text of digits
abbrev pub number_of_kind : List ℕ → Token → TokenKind → Option ℕ
number_of_kind text token kind.Key = None
number_of_kind text token kind.Integer = small_number (without_plus (bytes_of text token))
number_of_kind text token kind.Real = None
number_of_kind text token kind.Text = small_number (content_of text token)
number_of_kind text token kind.Left = None
number_of_kind text token kind.Right = None

unfoldable pub number_in : List ℕ → ValueTree → Option ℕ
number_in text (leaf token) = number_of_kind text token token.kind
number_in text (list inner) = None

-- ---- addresses
-- one to three digits, of at most 255
abbrev pub address_part : List ℕ → Option ℕ
address_part bytes =
    if nat_le (length bytes) 3 then option_and_then (λ n. if nat_le n 255 then Some n else None) (decimal_of bytes) else None

-- four bytes, the first highest
abbrev pub joined : Option ℕ → Option ℕ → Option ℕ → Option ℕ → Option ℕ
joined a b c d =
    option_and_then (λ w. option_and_then (λ x. option_and_then (λ y. option_map (λ z. ((w * 256 + x) * 256 + y) * 256 + z) d) c) b) a

abbrev pub address_from : List (List ℕ) → Option ℕ
address_from [] = None
address_from (a ∷ []) = None
address_from (a ∷ b ∷ []) = None
address_from (a ∷ b ∷ c ∷ []) = None
address_from (a ∷ b ∷ c ∷ d ∷ []) = joined (address_part a) (address_part b) (address_part c) (address_part d)
address_from (a ∷ b ∷ c ∷ d ∷ e ∷ more) = None

-- four parts joined by points
unfoldable pub address_of : List ℕ → Option ℕ
address_of bytes = address_from (slice_split is_point bytes)
