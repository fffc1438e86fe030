-- A text cut into pieces: blanks, comments and tokens. Each piece is the longest that begins where it does.
use Rattle.std.specs.Prelude.{◌≡◌, ℕ, ◌+◌, ◌==◌, Bool, not, ◌||◌, nat_lt, List, [], ◌∷◌, length, take, drop, Option, Some, None, if◌then◌else◌, option_map}
use Rattle.std.specs.List.{prefix_len}
use Rattle.gml_lex.specs.declared.kinds.TokenKind.{TokenKind}
use Rattle.gml_lex.specs.declared.kinds.TokenKind.TheVariants as kind
use Rattle.gml_lex.specs.declared.pieces.Piece.{Piece}
use Rattle.gml_lex.specs.Words.{is_word_byte, kind_of_word}

-- space, tab, carriage return and line feed
abbrev pub is_blank : ℕ → Bool
is_blank b = b == 32 || b == 9 || b == 13 || b == 10

abbrev pub isnt_feed : ℕ → Bool
isnt_feed b = not (b == 10)

abbrev pub isnt_quote : ℕ → Bool
isnt_quote b = not (b == 34)

-- a blank or a comment
abbrev pub gap : ℕ → Piece
gap len = record { kind = None; len = len }

abbrev pub token_piece : ℕ → TokenKind → Piece
token_piece len k = record { kind = Some k; len = len }

-- after an opening quote: a text to the next quote, if there is one
abbrev pub text_at : List ℕ → Option Piece
text_at bs =
    if nat_lt (prefix_len isnt_quote bs) (length bs) then Some (token_piece (2 + prefix_len isnt_quote bs) kind.Text) else None

-- the longest run of a word's bytes, if it is a word of some kind
abbrev pub word_at : List ℕ → Option Piece
word_at text = option_map (token_piece (prefix_len is_word_byte text)) (kind_of_word (take (prefix_len is_word_byte text) text))

-- the piece at the front of a text, or none where no piece begins
unfoldable pub piece_at : List ℕ → Option Piece
piece_at [] = None
piece_at (b ∷ bs) =
    if is_blank b then Some (gap 1) else
    (if b == 35 then Some (gap (1 + prefix_len isnt_feed bs)) else
    (if b == 34 then text_at bs else
    (if b == 91 then Some (token_piece 1 kind.Left) else
    (if b == 93 then Some (token_piece 1 kind.Right) else word_at (b ∷ bs)))))

-- the text is these pieces, one after the other, and then the rest
abbrev pub Pieces : List ℕ → List Piece → List ℕ → Type 0
Pieces text [] rest = text ≡ rest
Pieces text (p ∷ pieces) rest = (piece_at text ≡ Some p) × Pieces (drop p.len text) pieces rest

-- the place after pieces that begin at a place
abbrev pub place_after : ℕ → List Piece → ℕ
place_after place [] = place
place_after place (p ∷ pieces) = place_after (place + p.len) pieces
