-- The first pair of a list on its tokens.
use Rattle.std.proofs.Common.{◌≡◌, ◌<◌, ◌≤◌, ℕ, List, ◌∷◌, ◌++◌, length, take, drop, get_or, refl, sym, ◌∙◌, ap, subst, arith}
use Rattle.std.proofs.lemmas.List.{take_at, drop_at}
use Rattle.std.specs.Borrow.{Bor}
use Rattle.gml_lex.specs.declared.kinds.TokenKind.{TokenKind}
use Rattle.gml_lex.specs.declared.kinds.TokenKind.TheVariants as kind
use Rattle.gml_lex.specs.declared.kinds.Token.{Token}
use Rattle.gml_reader.specs.declared.walk.ValueTokens.TheVariants.{Inner}
use Rattle.gml_reader.specs.declared.walk.FirstPair.{FirstPair}
use Rattle.gml_reader.specs.Grammar.{Pairs, done, plain, nested, spelled, IsPlain}
use Rattle.gml_reader.specs.Walk.{IsListIn, IsPairOf, closing}
use Rattle.gml_reader.proofs.Closing.{closing-inner}
use Rattle.gml_reader.proofs.TokenLists.{tail_is}

-- fewer than two tokens are no pair
pub no_pair : (t : Pairs) (tokens : List Token) → tokens ≡ spelled t → length tokens < 2 → t ≡ done
no_pair done tokens same few = refl
no_pair (plain key value more) tokens same few = absurd (omega (arith, ap length same))
no_pair (nested key left inner right more) tokens same few = absurd (omega (arith, ap length same))

-- a plain value is no Left
left_is_no_value : (k : TokenKind) → k ≡ kind.Left → IsPlain k → ⊥
left_is_no_value k is simple = subst IsPlain is simple

-- the code's pair of a key and a list
abbrev inner_pair : Token → Bor (List Token) → Bor (List Token) → FirstPair
inner_pair key inner rest = record { key = key; value = Inner inner; rest = rest }

-- what stands after a Left: the inner list, then its Right and the other pairs
pub record IsClosed (len : ℕ) (t : Pairs) (key : Token) (behind : List Token) (end : ℕ) : Type 0 where
  pub closed : 0 < length (drop end behind)
  pub pair : (inner rest : Bor (List Token)) (right : Token) → inner.now ≡ take end behind → drop end behind ≡ right ∷ rest.now
      → IsPairOf len t (inner_pair key inner rest)

-- tokens whose second is a Left, what stands after it, and where its list ends there
pub record Opens (tokens : List Token) (none : Token) (behind : List Token) (end : ℕ) : Type 0 where
  pub some : 2 ≤ length tokens
  pub opens : (get_or tokens 1 none).kind ≡ kind.Left
  pub behind_is : behind ≡ drop 2 tokens
  pub end_is : end ≡ closing behind 0

-- a list with a first value that begins with a Left has a list as its first value
closed_list : (len : ℕ) (t : Pairs) (none : Token) (behind : List Token) (end : ℕ) → IsListIn len t
    → Opens (spelled t) none behind end → IsClosed len t (get_or (spelled t) 0 none) behind end
closed_list len done none behind end l open_list = absurd (let some : 2 ≤ 0 = open_list.some in omega arith)
closed_list len (plain key value more) none behind end l open_list = absurd (left_is_no_value value.kind open_list.opens l.is_plain)
closed_list len (nested key left inner right more) none behind end l open_list =
    let later = spelled inner ++ (right ∷ spelled more) in
    let at_right : end ≡ length (spelled inner) =
    open_list.end_is ∙ ap (λ ts. closing ts 0) open_list.behind_is ∙ closing-inner len inner right (spelled more) l.inner l.closes in
    let front : take end later ≡ spelled inner = take_at (spelled inner) (right ∷ spelled more) end (sym at_right) in
    let back : drop end later ≡ right ∷ spelled more = drop_at (spelled inner) (right ∷ spelled more) end (sym at_right) in
    subst (λ ts. IsClosed len (nested key left inner right more) key ts end) (sym open_list.behind_is) (record {
      closed = omega (arith, ap length back);
      pair = λ i r first inner_is rest_is. record {
        key_is = refl;
        value_is = (l.inner, inner_is ∙ front);
        rest_is = tail_is first right r.now (spelled more) (sym rest_is ∙ back);
      };
    })

pub closes : {len : ℕ} {t : Pairs} {tokens : List Token} {none : Token} {behind : List Token} {end : ℕ} → IsListIn len t
    → tokens ≡ spelled t → Opens tokens none behind end → IsClosed len t (get_or tokens 0 none) behind end
closes {len} {t} {tokens} {none} {behind} {end} l same open_list =
    subst (λ ts. IsClosed len t (get_or ts 0 none) behind end) (sym same)
    (closed_list len t none behind end l (subst (λ ts. Opens ts none behind end) same open_list))
