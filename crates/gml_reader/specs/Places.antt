-- Where tokens leave the grammar, by the number of the token.
use Rattle.std.specs.Prelude.{◌≡◌, ℕ, ◌+◌, ◌<◌, ◌≤◌, Bool, true, false, List, length, take, count_by}
use Rattle.gml_lex.specs.declared.kinds.TokenKind.{TokenKind}
use Rattle.gml_lex.specs.declared.kinds.TokenKind.TheVariants as kind
use Rattle.gml_lex.specs.declared.kinds.Token.{Token}
use Rattle.gml_reader.specs.declared.grammar.Misplaced.{Misplaced}
use Rattle.gml_reader.specs.declared.grammar.Misplaced.TheVariants.{Bad, Deep, Cut}
use Rattle.gml_reader.specs.Grammar.{IsFile, IsFront}

abbrev pub is_left_kind : TokenKind → Bool
is_left_kind kind.Key = false
is_left_kind kind.Integer = false
is_left_kind kind.Real = false
is_left_kind kind.Text = false
is_left_kind kind.Left = true
is_left_kind kind.Right = false

abbrev pub is_right_kind : TokenKind → Bool
is_right_kind kind.Key = false
is_right_kind kind.Integer = false
is_right_kind kind.Real = false
is_right_kind kind.Text = false
is_right_kind kind.Left = false
is_right_kind kind.Right = true

abbrev pub is_left : Token → Bool
is_left token = is_left_kind token.kind

abbrev pub is_right : Token → Bool
is_right token = is_right_kind token.kind

abbrev pub lefts : List Token → ℕ
lefts tokens = count_by is_left tokens

abbrev pub rights : List Token → ℕ
rights tokens = count_by is_right tokens

-- at most 32 lists are open after any of the first tokens
abbrev pub IsShallowTo : ℕ → List Token → Type 0
IsShallowTo at tokens = (i : ℕ) → i ≤ at → lefts (take i tokens) ≤ 32 + rights (take i tokens)

abbrev pub IsShallow : List Token → Type 0
IsShallow tokens = IsShallowTo (length tokens) tokens

-- the tokens before this one begin a file, and with it they begin none
pub record IsBadAt (tokens : List Token) (at : ℕ) : Type 0 where
  pub inside : at < length tokens
  pub before : IsFront (take at tokens)
  pub bad : IsFront (take (at + 1) tokens) → ⊥
  pub shallow : IsShallowTo at tokens

-- the tokens up to this one begin a file, and it opens the first list at depth 33
pub record IsDeepAt (tokens : List Token) (at : ℕ) : Type 0 where
  pub inside : at < length tokens
  pub before : IsFront (take (at + 1) tokens)
  pub shallow : IsShallowTo at tokens
  pub deep : lefts (take (at + 1) tokens) ≡ 33 + rights (take (at + 1) tokens)

-- the tokens begin a file and are none
pub record IsCut (tokens : List Token) : Type 0 where
  pub front : IsFront tokens
  pub cut : IsFile tokens → ⊥
  pub shallow : IsShallow tokens

abbrev pub IsMisplaced : List Token → Misplaced → Type 0
IsMisplaced tokens (Bad at) = IsBadAt tokens at
IsMisplaced tokens (Deep at) = IsDeepAt tokens at
IsMisplaced tokens Cut = IsCut tokens
