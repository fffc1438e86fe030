-- Pieces and tokens so far, with one piece more.
use Rattle.std.proofs.Common.{◌≡◌, ◌<◌, ◌≤◌, ◌+◌, ◌-◌, ℕ, List, [], ◌∷◌, ◌++◌, length, drop, refl, sym, ◌∙◌, ap, subst, arith, Option, Some, None, append_assoc, append-nil, length-drop, length-append, ◌==◌, true, false}
use Rattle.std.proofs.lemmas.Bool.{false≢true}
use Rattle.std.proofs.lemmas.Bool.Decides.{nat_tests}
use Rattle.std.proofs.lemmas.List.Elements.{All-nil, All-cons, All-append}
use Rattle.std.specs.List.{All}
use Rattle.std.specs.Option.{option_map_or}
use Rattle.gml_lex.specs.declared.kinds.TokenKind.{TokenKind}
use Rattle.gml_lex.specs.declared.kinds.Token.{Token}
use Rattle.gml_lex.specs.declared.pieces.Piece.{Piece}
use Rattle.gml_lex.specs.Pieces.{piece_at, Pieces, place_after}
use Rattle.gml_lex.specs.Tokens.{token, token_of, tokens_of, AreTokens, IsLexFault}
use Rattle.gml_lex.proofs.PieceLengths.{fits_at}

-- a piece more, at the front of what was the rest
pub Pieces-push : (text : List ℕ) (pieces : List Piece) (p : Piece) (rest : List ℕ) → Pieces text pieces rest → piece_at rest ≡ Some p
    → Pieces text (pieces ++ p ∷ []) (drop p.len rest)
Pieces-push text [] p rest same here = (ap piece_at same ∙ here, ap (drop p.len) same)
Pieces-push text (q ∷ pieces) p rest front here = (front.0, Pieces-push (drop q.len text) pieces p rest front.1 here)

-- its token comes last, at the place after the pieces before
tokens_of-push : (place : ℕ) (pieces : List Piece) (p : Piece)
    → tokens_of place (pieces ++ p ∷ []) ≡ tokens_of place pieces ++ token_of (place_after place pieces) p
tokens_of-push place [] p = append-nil (token_of place p)
tokens_of-push place (q ∷ pieces) p =
    ap (λ ts. token_of place q ++ ts) (tokens_of-push (place + q.len) pieces p)
    ∙ sym (append_assoc (token_of place q) (tokens_of (place + q.len) pieces) (token_of (place_after (place + q.len) pieces) p))

-- and the place after it is further by its length
place_after-push : (place : ℕ) (pieces : List Piece) (p : Piece)
    → place_after place (pieces ++ p ∷ []) ≡ place_after place pieces + p.len
place_after-push place [] p = refl
place_after-push place (q ∷ pieces) p = place_after-push (place + q.len) pieces p

-- a byte at least, within so many bytes
abbrev pub IsSpan : ℕ → Token → Type 0
IsSpan len t = (t.start < t.end) × (t.end ≤ len)

-- what was read of a text, up to the rest
pub record Lexed (text rest : List ℕ) (tokens : List Token) : Type 0 where
  pub pieces : List Piece
  pub front : Pieces text pieces rest
  pub tokens_are : tokens ≡ tokens_of 0 pieces
  pub behind : place_after 0 pieces + length rest ≡ length text
  pub spans : All (IsSpan (length text)) tokens
  pub few : length tokens + length rest ≤ length text

-- the token that a piece is, if it is one, has the piece's span
spans_of : (len start : ℕ) (p : Piece) → 1 ≤ p.len → start + p.len ≤ len → All (IsSpan len) (token_of start p)
spans_of len start p least most = by_kind p.kind
  where
    by_kind : (o : Option TokenKind) → All (IsSpan len) (option_map_or (λ k. token start (start + p.len) k ∷ []) o [])
    by_kind None = All-nil (IsSpan len)
    by_kind (Some k) = All-cons (IsSpan len) _ [] (omega arith, most) (All-nil (IsSpan len))

-- a piece is one token at most
one_token : (start end : ℕ) (o : Option TokenKind) → length (option_map_or (λ k. token start end k ∷ []) o []) ≤ 1
one_token start end None = omega arith
one_token start end (Some k) = omega arith

-- one piece more was read: the one at the front of the rest
pub Lexed-push : {text rest : List ℕ} {tokens : List Token} (more : List Token) (p : Piece) (start : ℕ) → Lexed text rest tokens
    → Some p ≡ piece_at rest → start ≡ length text - length rest → more ≡ tokens ++ token_of start p
    → Lexed text (drop p.len rest) more
Lexed-push {text} {rest} {tokens} more p start l here at_is pushed =
    let fits = fits_at rest p (sym here) in
    let place_is : start ≡ place_after 0 l.pieces = omega (arith, l.behind) in
    let within : start + p.len ≤ length text = omega (arith, fits.most, l.behind) in
    record {
      pieces = l.pieces ++ p ∷ [];
      front = Pieces-push text l.pieces p rest l.front (sym here);
      tokens_are =
          pushed ∙ ap (λ ts. ts ++ token_of start p) l.tokens_are ∙ ap (λ n. tokens_of 0 l.pieces ++ token_of n p) place_is
          ∙ sym (tokens_of-push 0 l.pieces p);
      behind = omega (arith, place_after-push 0 l.pieces p, length-drop p.len rest, fits.most, l.behind);
      spans =
          subst (All (IsSpan (length text))) (sym pushed)
          (All-append (IsSpan (length text)) tokens (token_of start p) l.spans (spans_of (length text) start p fits.least within));
      few =
          let longer = length-append tokens (token_of start p) in
          let one = one_token start (start + p.len) p.kind in
          omega (arith, ap length pushed, longer, one, length-drop p.len rest, fits.least, fits.most, l.few);
    }

empty_by_test : (bytes : List ℕ) → (length bytes == 0) ≡ true → bytes ≡ []
empty_by_test [] e = refl
empty_by_test (b ∷ bytes) e = absurd (grind (arith, nat_tests))

some_by_test : (bytes : List ℕ) → (length bytes == 0) ≡ false → bytes ≡ [] → ⊥
some_by_test bytes some none = false≢true (sym some ∙ ap (λ xs. length xs == 0) none)

-- nothing is left: all tokens were read
pub Lexed-end : {text rest : List ℕ} {tokens : List Token} → Lexed text rest tokens → (length rest == 0) ≡ true → AreTokens text tokens
Lexed-end {text} {rest} l end = record {
  pieces = l.pieces;
  whole = subst (Pieces text l.pieces) (empty_by_test rest end) l.front;
  tokens_are = l.tokens_are;
}

-- no piece begins where bytes are left: the fault is there
pub Lexed-fault : {text rest : List ℕ} {tokens : List Token} → Lexed text rest tokens → (length rest == 0) ≡ false
    → None ≡ piece_at rest → IsLexFault text (length text - length rest)
Lexed-fault {text} {rest} l more stuck = record {
  pieces = l.pieces;
  rest = rest;
  front = l.front;
  more = some_by_test rest more;
  stuck = sym stuck;
  place_is = omega (arith, l.behind);
}
