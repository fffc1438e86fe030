-- The tokens of a text, and the place of its first fault.
use Rattle.std.specs.Prelude.{◌≡◌, ◌≢◌, ℕ, ◌+◌, ◌≤◌, ◌⊎◌, List, [], ◌∷◌, ◌++◌, None, Result, Ok, Err, AllPairs}
use Rattle.std.specs.Option.{option_map_or}
use Rattle.std.specs.declared.vec.Vec.{Vec}
use Rattle.mn_base.specs.declared.refusal.Refusal.{Refusal}
use Rattle.mn_base.specs.declared.refusal.Refusal.TheVariants as refusal
use Rattle.gml_lex.specs.declared.faults.LexFault.{LexFault}
use Rattle.gml_lex.specs.declared.kinds.TokenKind.{TokenKind}
use Rattle.gml_lex.specs.declared.kinds.Token.{Token}
use Rattle.gml_lex.specs.declared.pieces.Piece.{Piece}
use Rattle.gml_lex.specs.Pieces.{piece_at, Pieces, place_after}

abbrev pub token : ℕ → ℕ → TokenKind → Token
token start end k = record { kind = k; start = start; end = end }

-- the token that a piece is, if it is one, where it begins at a place
abbrev pub token_of : ℕ → Piece → List Token
token_of place p = option_map_or (λ k. token place (place + p.len) k ∷ []) p.kind []

-- the tokens among pieces that begin at a place, in order, with their kinds and spans
abbrev pub tokens_of : ℕ → List Piece → List Token
tokens_of place [] = []
tokens_of place (p ∷ pieces) = token_of place p ++ tokens_of (place + p.len) pieces

-- the whole text is pieces, and these are the tokens among them
pub record AreTokens (text : List ℕ) (tokens : List Token) : Type 0 where
  pub pieces : List Piece
  pub whole : Pieces text pieces []
  pub tokens_are : tokens ≡ tokens_of 0 pieces

-- pieces lead to the place, and no piece begins there though bytes are left
pub record IsLexFault (text : List ℕ) (place : ℕ) : Type 0 where
  pub pieces : List Piece
  pub rest : List ℕ
  pub front : Pieces text pieces rest
  pub more : rest ≢ []
  pub stuck : piece_at rest ≡ None
  pub place_is : place ≡ place_after 0 pieces

-- the answer is these tokens, or out of memory
abbrev pub GivesTokens : {A : Type 0} → List Token → Result (Vec Token A) (Refusal LexFault) → Type 0
GivesTokens tokens (Ok given) = given.items ≡ tokens
GivesTokens tokens (Err refusal.NoMemory) = Unit {0}
GivesTokens tokens (Err (refusal.Fault fault)) = ⊥

-- no text has both tokens and a fault
abbrev pub NeverBoth : Type 0
NeverBoth = (text : List ℕ) (tokens : List Token) (place : ℕ) → AreTokens text tokens → IsLexFault text place → ⊥

-- no text has two lists of tokens
abbrev pub OneReading : Type 0
OneReading = (text : List ℕ) (ts us : List Token) → AreTokens text ts → AreTokens text us → ts ≡ us

-- no text has two faults
abbrev pub OneFault : Type 0
OneFault = (text : List ℕ) (place other : ℕ) → IsLexFault text place → IsLexFault text other → place ≡ other

-- each text has tokens or a fault
abbrev pub EachTextIsAnswered : Type 0
EachTextIsAnswered =
    (text : List ℕ) → ((tokens : List Token) × AreTokens text tokens) ⊎ ((place : ℕ) × IsLexFault text place)

-- each token of a text ends where the next begins, or before
abbrev pub SpansInOrder : Type 0
SpansInOrder = (text : List ℕ) (tokens : List Token) → AreTokens text tokens → AllPairs (λ t u. t.end ≤ u.start) tokens
