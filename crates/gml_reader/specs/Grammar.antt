-- The grammar of a GML file as a relation between trees and lists of tokens.
use Rattle.std.specs.Prelude.{◌≡◌, List, [], ◌∷◌, ◌++◌}
use Rattle.gml_lex.specs.declared.kinds.TokenKind.{TokenKind}
use Rattle.gml_lex.specs.declared.kinds.TokenKind.TheVariants as kind
use Rattle.gml_lex.specs.declared.kinds.Token.{Token}

-- a list of pairs: a key and a plain value, or a key, a Left, the pairs of an inner list and a Right; then more pairs
pub data Pairs : Type 0 where
  done : Pairs
  plain : Token → Token → Pairs → Pairs
  nested : Token → Token → Pairs → Token → Pairs → Pairs

-- the tokens of a list of pairs, in order
abbrev pub spelled : Pairs → List Token
spelled done = []
spelled (plain key value more) = key ∷ value ∷ spelled more
spelled (nested key left inner right more) = key ∷ left ∷ spelled inner ++ (right ∷ spelled more)

-- the kinds of value that are one token
abbrev pub IsPlain : TokenKind → Type 0
IsPlain kind.Key = ⊥
IsPlain kind.Integer = Unit {0}
IsPlain kind.Real = Unit {0}
IsPlain kind.Text = Unit {0}
IsPlain kind.Left = ⊥
IsPlain kind.Right = ⊥

-- a key with a plain value, and a fact of the pairs after them
pub record IsPlainPair (key value : Token) (Later : Type 0) : Type 0 where
  pub is_key : key.kind ≡ kind.Key
  pub is_plain : IsPlain value.kind
  pub more : Later

-- a key with a list, a fact of what is in it, and one of the pairs after it
pub record IsNestedPair (key left right : Token) (Inside Later : Type 0) : Type 0 where
  pub is_key : key.kind ≡ kind.Key
  pub opens : left.kind ≡ kind.Left
  pub inner : Inside
  pub closes : right.kind ≡ kind.Right
  pub more : Later

-- each token is of the kind that the grammar asks for there
abbrev pub IsList : Pairs → Type 0
IsList done = Unit {0}
IsList (plain key value more) = IsPlainPair key value (IsList more)
IsList (nested key left inner right more) = IsNestedPair key left right (IsList inner) (IsList more)

-- a file is a list
pub record IsFile (tokens : List Token) : Type 0 where
  pub file : Pairs
  pub list : IsList file
  pub spelled_is : tokens ≡ spelled file

-- with more tokens it would be a file
pub record IsFront (tokens : List Token) : Type 0 where
  pub more : List Token
  pub file : Pairs
  pub list : IsList file
  pub spelled_is : tokens ++ more ≡ spelled file
