-- Each text is cut into pieces to its end, or to a place where no piece begins.
use Rattle.std.proofs.Common.{◌≡◌, ◌≤◌, ◌⊎◌, ℕ, zero, suc, List, [], ◌∷◌, length, drop, refl, arith, Option, Some, None, inl, inr, length-drop}
use Rattle.gml_lex.specs.declared.pieces.Piece.{Piece}
use Rattle.gml_lex.specs.Pieces.{piece_at, Pieces, place_after}
use Rattle.gml_lex.specs.declared.kinds.Token.{Token}
use Rattle.gml_lex.specs.Tokens.{tokens_of, AreTokens, IsLexFault, EachTextIsAnswered}
use Rattle.gml_lex.proofs.PieceLengths.{fits_at}
use Rattle.gml_lex.proofs.OneReading.{piece_at-nil}

-- the pieces of a text, as far as they go
record Cut (text : List ℕ) : Type 0 where
  pieces : List Piece
  rest : List ℕ
  front : Pieces text pieces rest
  stuck : piece_at rest ≡ None

-- a piece has a byte at least, so what is after it is shorter
cut : (n : ℕ) (text : List ℕ) → length text ≤ n → Cut text
cut zero [] short = record { pieces = []; rest = []; front = refl; stuck = piece_at-nil }
cut zero (b ∷ bs) short = absurd (omega arith)
cut (suc n) text short =
    by_piece (piece_at text) refl
    (λ p here. let fits = fits_at text p here in cut n (drop p.len text) (omega (arith, length-drop p.len text, fits.least, fits.most)))
  where
    by_piece : (o : Option Piece) → piece_at text ≡ o → ((p : Piece) → piece_at text ≡ Some p → Cut (drop p.len text)) → Cut text
    by_piece None here later = record { pieces = []; rest = text; front = refl; stuck = here }
    by_piece (Some p) here later =
        let behind = later p here in
        record { pieces = p ∷ behind.pieces; rest = behind.rest; front = (here, behind.front); stuck = behind.stuck }

abbrev Answered : List ℕ → Type 0
Answered text = ((tokens : List Token) × AreTokens text tokens) ⊎ ((place : ℕ) × IsLexFault text place)

answered : (text : List ℕ) (pieces : List Piece) (rest : List ℕ) → Pieces text pieces rest → piece_at rest ≡ None → Answered text
answered text pieces [] front stuck = inl (tokens_of 0 pieces, record { pieces = pieces; whole = front; tokens_are = refl })
answered text pieces (b ∷ bs) front stuck =
    inr (place_after 0 pieces, record { pieces = pieces; rest = b ∷ bs; front = front; more = λ e. cc; stuck = stuck; place_is = refl })

pub each_text_is_answered : EachTextIsAnswered
each_text_is_answered text = let c = cut (length text) text (omega arith) in answered text c.pieces c.rest c.front c.stuck
