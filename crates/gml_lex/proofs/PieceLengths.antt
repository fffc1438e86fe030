-- A piece has a byte at least, and no more than the text.
use Rattle.std.proofs.Common.{◌≡◌, ◌<◌, ◌≤◌, ◌==◌, ℕ, zero, suc, Bool, true, false, cond, nat_lt, List, [], ◌∷◌, length, take, refl, sym, subst, arith, Option, Some, None, IfSome, option_map}
use Rattle.std.proofs.lemmas.Bool.{ltb-true}
use Rattle.std.proofs.lemmas.List.Sums.{prefix_len-le-length}
use Rattle.std.specs.List.{prefix_len}
use Rattle.gml_lex.specs.declared.kinds.TokenKind.{TokenKind}
use Rattle.gml_lex.specs.declared.pieces.Piece.{Piece}
use Rattle.gml_lex.specs.Words.{is_word_byte, kind_of_word}
use Rattle.gml_lex.specs.Pieces.{is_blank, isnt_feed, isnt_quote, token_piece, text_at, word_at, piece_at}

pub record Fits (text : List ℕ) (p : Piece) : Type 0 where
  pub least : 1 ≤ p.len
  pub most : p.len ≤ length text

either : (P : Piece → Type 0) (b : Bool) (x y : Option Piece) → IfSome x P → IfSome y P → IfSome (cond b x y) P
either P true x y in_x in_y = in_x
either P false x y in_x in_y = in_y

when : (P : Piece → Type 0) (b : Bool) (p : Piece) → (b ≡ true → P p) → IfSome (cond b (Some p) None) P
when P true p fact = fact refl
when P false p fact = tt

text_fits : (b : ℕ) (bs : List ℕ) → IfSome (text_at bs) (Fits (b ∷ bs))
text_fits b bs =
    when (Fits (b ∷ bs)) (nat_lt (prefix_len isnt_quote bs) (length bs)) _
    (λ ends. let before : prefix_len isnt_quote bs < length bs = ltb-true _ _ ends in record { least = omega arith; most = omega arith })

no_empty_word : (k : TokenKind) → kind_of_word [] ≡ Some k → ⊥
unfolding kind_of_word
no_empty_word k e = cc

word_of_kind : (text : List ℕ) (n : ℕ) (o : Option TokenKind) → n ≤ length text → o ≡ kind_of_word (take n text)
    → IfSome (option_map (token_piece n) o) (Fits text)
word_of_kind text n None most e = tt
word_of_kind text zero (Some k) most e = absurd (no_empty_word k (sym e))
word_of_kind text (suc n) (Some k) most e = record { least = omega arith; most = most }

word_fits : (text : List ℕ) → IfSome (word_at text) (Fits text)
word_fits text = word_of_kind text (prefix_len is_word_byte text) _ (prefix_len-le-length is_word_byte text) refl

piece_fits : (text : List ℕ) → IfSome (piece_at text) (Fits text)
unfolding piece_at
piece_fits [] = tt
piece_fits (b ∷ bs) =
    let P : Piece → Type 0 = Fits (b ∷ bs) in
    let rest = prefix_len-le-length isnt_feed bs in
    either P (is_blank b) _ _ (record { least = omega arith; most = omega arith }) (
    either P (b == 35) _ _ (record { least = omega arith; most = omega arith }) (
    either P (b == 34) _ _ (text_fits b bs) (
    either P (b == 91) _ _ (record { least = omega arith; most = omega arith }) (
    either P (b == 93) _ _ (record { least = omega arith; most = omega arith }) (word_fits (b ∷ bs))))))

pub fits_at : (text : List ℕ) (p : Piece) → piece_at text ≡ Some p → Fits text p
fits_at text p e = subst (λ o. IfSome o (Fits text)) e (piece_fits text)
