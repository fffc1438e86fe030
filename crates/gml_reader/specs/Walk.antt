-- How the code walks the pairs of a list on its tokens.
use Rattle.std.specs.Prelude.{◌≡◌, ℕ, ◌+◌, ◌≤◌, List, [], ◌∷◌, length, Option, Some, None}
use Rattle.std.proofs.Common.{zero, suc}
use Rattle.gml_lex.specs.declared.kinds.TokenKind.{TokenKind}
use Rattle.gml_lex.specs.declared.kinds.TokenKind.TheVariants as kind
use Rattle.gml_lex.specs.declared.kinds.Token.{Token}
use Rattle.gml_reader.specs.declared.walk.ValueTokens as code
use Rattle.gml_reader.specs.declared.walk.ValueTokens.TheVariants.{Leaf, Inner}
use Rattle.gml_reader.specs.declared.walk.FirstPair.{FirstPair}
use Rattle.gml_reader.specs.Grammar.{Pairs, done, plain, nested, spelled, IsPlain}
use Rattle.gml_reader.specs.Values.{ValueTree, leaf, list}

-- a key with a plain value, both within so many bytes, and a fact of the pairs after them
pub record IsPlainPairIn (len : ℕ) (key value : Token) (Later : Type 0) : Type 0 where
  pub is_key : key.kind ≡ kind.Key
  pub is_plain : IsPlain value.kind
  pub key_within : key.end ≤ len
  pub value_within : value.end ≤ len
  pub more : Later

-- a key within so many bytes with a list, a fact of what is in it, and one of the pairs after it
pub record IsNestedPairIn (len : ℕ) (key left right : Token) (Inside Later : Type 0) : Type 0 where
  pub is_key : key.kind ≡ kind.Key
  pub opens : left.kind ≡ kind.Left
  pub key_within : key.end ≤ len
  pub inner : Inside
  pub closes : right.kind ≡ kind.Right
  pub more : Later

-- a list whose keys and plain values end within so many bytes
abbrev pub IsListIn : ℕ → Pairs → Type 0
IsListIn len done = Unit {0}
IsListIn len (plain key value more) = IsPlainPairIn len key value (IsListIn len more)
IsListIn len (nested key left inner right more) = IsNestedPairIn len key left right (IsListIn len inner) (IsListIn len more)

-- how many inner lists are open after a token; none where it closes the list itself
abbrev pub depth_after : TokenKind → ℕ → Option ℕ
depth_after kind.Key d = Some d
depth_after kind.Integer d = Some d
depth_after kind.Real d = Some d
depth_after kind.Text d = Some d
depth_after kind.Left d = Some (suc d)
depth_after kind.Right zero = None
depth_after kind.Right (suc d) = Some d

-- how many tokens stand before the Right that closes so many inner lists and then the list itself
abbrev pub closing_at : Option ℕ → (ℕ → ℕ) → ℕ
closing_at None later = 0
closing_at (Some d) later = 1 + later d

abbrev pub closing : List Token → ℕ → ℕ
closing [] d = 0
closing (t ∷ ts) d = closing_at (depth_after t.kind d) (closing ts)

-- the code's value is that of the tree
abbrev pub IsValueOf : ℕ → ValueTree → code.ValueTokens → Type 0
IsValueOf len (leaf token) (Leaf k) = (token.end ≤ len) × (k ≡ token)
IsValueOf len (leaf token) (Inner s) = ⊥
IsValueOf len (list inner) (Leaf k) = ⊥
IsValueOf len (list inner) (Inner s) = IsListIn len inner × (s.now ≡ spelled inner)

abbrev pub IsFound : ℕ → Option ValueTree → Option code.ValueTokens → Type 0
IsFound len None None = Unit {0}
IsFound len None (Some w) = ⊥
IsFound len (Some v) None = ⊥
IsFound len (Some v) (Some w) = IsValueOf len v w

-- the code's first pair has this key and value, and its rest is these pairs
pub record HasParts (len : ℕ) (key : Token) (value : ValueTree) (more : Pairs) (p : FirstPair) : Type 0 where
  pub key_is : p.key ≡ key
  pub value_is : IsValueOf len value p.value
  pub rest_is : p.rest.now ≡ spelled more

-- the code's first pair is that of the tree
abbrev pub IsPairOf : ℕ → Pairs → FirstPair → Type 0
IsPairOf len done p = ⊥
IsPairOf len (plain key value more) p = HasParts len key (leaf value) more p
IsPairOf len (nested key left inner right more) p = HasParts len key (list inner) more p

abbrev pub IsFirstOf : ℕ → Pairs → Option FirstPair → Type 0
IsFirstOf len t None = t ≡ done
IsFirstOf len t (Some p) = IsPairOf len t p

-- a list of no more tokens
abbrev pub IsWithin : ℕ → code.ValueTokens → Type 0
IsWithin n (Leaf k) = Unit {0}
IsWithin n (Inner s) = length s.now ≤ n
