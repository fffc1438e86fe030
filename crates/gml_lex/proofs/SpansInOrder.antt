-- The spans of tokens stand in order, since each piece begins after those before it.
use Rattle.std.proofs.Common.{◌≤◌, ◌+◌, ℕ, List, [], ◌∷◌, ◌++◌, sym, subst, arith, Option, Some, None}
use Rattle.std.proofs.lemmas.List.Elements.{All-nil, All-cons}
use Rattle.std.proofs.lemmas.List.Kept.{AllPairs-cons}
use Rattle.std.specs.List.{All, AllPairs}
use Rattle.std.specs.Option.{option_map_or}
use Rattle.gml_lex.specs.declared.kinds.TokenKind.{TokenKind}
use Rattle.gml_lex.specs.declared.kinds.Token.{Token}
use Rattle.gml_lex.specs.declared.pieces.Piece.{Piece}
use Rattle.gml_lex.specs.Tokens.{token, tokens_of, SpansInOrder}

abbrev StartsFrom : ℕ → Token → Type 0
StartsFrom least t = least ≤ t.start

abbrev EndsBefore : Token → Token → Type 0
EndsBefore t u = t.end ≤ u.start

-- no token of pieces begins before the first piece
starts_from : (least place : ℕ) (pieces : List Piece) → least ≤ place → All (StartsFrom least) (tokens_of place pieces)
starts_from least place [] below = All-nil (StartsFrom least)
starts_from least place (p ∷ pieces) below =
    by_kind p.kind (tokens_of (place + p.len) pieces) (starts_from least (place + p.len) pieces (omega arith))
  where
    by_kind : (o : Option TokenKind) (later : List Token) → All (StartsFrom least) later
        → All (StartsFrom least) (option_map_or (λ k. token place (place + p.len) k ∷ []) o [] ++ later)
    by_kind None later rest = rest
    by_kind (Some k) later rest = All-cons (StartsFrom least) _ later below rest

in_order : (place : ℕ) (pieces : List Piece) → AllPairs EndsBefore (tokens_of place pieces)
in_order place [] = λ i j d before within. absurd (omega arith)
in_order place (p ∷ pieces) =
    by_kind p.kind (tokens_of (place + p.len) pieces) (starts_from (place + p.len) (place + p.len) pieces (omega arith))
    (in_order (place + p.len) pieces)
  where
    by_kind : (o : Option TokenKind) (later : List Token) → All (StartsFrom (place + p.len)) later → AllPairs EndsBefore later
        → AllPairs EndsBefore (option_map_or (λ k. token place (place + p.len) k ∷ []) o [] ++ later)
    by_kind None later from ordered = ordered
    by_kind (Some k) later from ordered = AllPairs-cons EndsBefore (token place (place + p.len) k) later from ordered

pub spans_in_order : SpansInOrder
spans_in_order text tokens are = subst (AllPairs EndsBefore) (sym are.tokens_are) (in_order 0 are.pieces)
