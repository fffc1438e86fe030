-- Equations of lists of tokens, taken apart, and tokens of two kinds.
use Rattle.std.proofs.Common.{◌≡◌, List, [], ◌∷◌, ◌∙◌, ap}
use Rattle.gml_lex.specs.declared.kinds.TokenKind.{TokenKind}
use Rattle.gml_lex.specs.declared.kinds.TokenKind.TheVariants as kind
use Rattle.gml_lex.specs.declared.kinds.Token.{Token}

-- equal lists have equal first tokens
pub head_is : (a b : Token) (xs ys : List Token) → a ∷ xs ≡ b ∷ ys → a ≡ b
head_is a b xs ys e = cc

-- and equal tokens after them
pub tail_is : (a b : Token) (xs ys : List Token) → a ∷ xs ≡ b ∷ ys → xs ≡ ys
tail_is a b xs ys e = cc

-- a list with a first token isn't empty
pub no_head : (a : Token) (xs : List Token) → a ∷ xs ≡ [] → ⊥
no_head a xs e = cc

pub none_is : (a : Token) (xs : List Token) → [] ≡ a ∷ xs → ⊥
none_is a xs e = cc

-- equal tokens have one kind
pub kind_of_same : (a b : Token) (k : TokenKind) → a ≡ b → b.kind ≡ k → a.kind ≡ k
kind_of_same a b k e is = ap (λ t. t.kind) e ∙ is

-- of equal lists one doesn't begin with a key and the other with a Right
pub key_isnt_right : (a b : Token) (xs ys : List Token) → a ∷ xs ≡ b ∷ ys → a.kind ≡ kind.Key → b.kind ≡ kind.Right → ⊥
key_isnt_right a b xs ys e key right = let same : a.kind ≡ b.kind = ap (λ t. t.kind) (head_is a b xs ys e) in cc

pub key≢right : kind.Key ≡ kind.Right → ⊥
key≢right e = cc
