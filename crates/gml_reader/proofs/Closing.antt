-- Where a list is closed, and the first pair of one.
use Rattle.std.proofs.Common.{◌≡◌, ◌+◌, ℕ, suc, List, ◌∷◌, ◌++◌, length, refl, ap, arith, Option, Some, append_assoc, length-append}
use Rattle.gml_lex.specs.declared.kinds.TokenKind.{TokenKind}
use Rattle.gml_lex.specs.declared.kinds.TokenKind.TheVariants as kind
use Rattle.gml_lex.specs.declared.kinds.Token.{Token}
use Rattle.gml_reader.specs.Grammar.{Pairs, done, plain, nested, spelled, IsPlain}
use Rattle.gml_reader.specs.Walk.{IsListIn, depth_after, closing_at, closing}

-- a token that neither opens nor closes a list
plain_step : (k : TokenKind) (d : ℕ) → IsPlain k → depth_after k d ≡ Some d
plain_step kind.Key d simple = refl
plain_step kind.Integer d simple = refl
plain_step kind.Real d simple = refl
plain_step kind.Text d simple = refl
plain_step kind.Left d simple = absurd simple
plain_step kind.Right d simple = absurd simple

depth_of : (k kd : TokenKind) (d : ℕ) → k ≡ kd → depth_after k d ≡ depth_after kd d
depth_of k kd d is = ap (λ x. depth_after x d) is

-- a token that doesn't close the list stands before its Right
one_more : (o : Option ℕ) (e : ℕ) (later : ℕ → ℕ) → o ≡ Some e → closing_at o later ≡ 1 + later e
one_more o e later is = ap (λ x. closing_at x later) is

-- a list is passed as a whole
pub closing-spelled : (len : ℕ) (t : Pairs) (d : ℕ) (rest : List Token) → IsListIn len t
    → closing (spelled t ++ rest) d ≡ length (spelled t) + closing rest d
closing-spelled len done d rest l = omega arith
closing-spelled len (plain key value more) d rest l =
    let later = closing-spelled len more d rest l.more in
    let one = one_more _ d (closing (value ∷ (spelled more ++ rest))) (depth_of key.kind kind.Key d l.is_key) in
    let two = one_more _ d (closing (spelled more ++ rest)) (plain_step value.kind d l.is_plain) in
    omega (arith, one, two, later)
closing-spelled len (nested key left inner right more) d rest l =
    let close = right ∷ (spelled more ++ rest) in
    let shape : (spelled inner ++ (right ∷ spelled more)) ++ rest ≡ spelled inner ++ close =
    append_assoc (spelled inner) (right ∷ spelled more) rest in
    let one = one_more _ d (closing (left ∷ ((spelled inner ++ (right ∷ spelled more)) ++ rest))) (depth_of key.kind kind.Key d l.is_key) in
    let two = one_more _ (suc d) (closing ((spelled inner ++ (right ∷ spelled more)) ++ rest)) (depth_of left.kind kind.Left d l.opens) in
    let three = ap (λ ts. closing ts (suc d)) shape in
    let four = closing-spelled len inner (suc d) close l.inner in
    let five = one_more _ d (closing (spelled more ++ rest)) (depth_of right.kind kind.Right (suc d) l.closes) in
    let six = closing-spelled len more d rest l.more in
    omega (arith, one, two, three, four, five, six, length-append (spelled inner) (right ∷ spelled more))

-- the Right of a list that begins here
pub closing-inner : (len : ℕ) (inner : Pairs) (right : Token) (back : List Token) → IsListIn len inner → right.kind ≡ kind.Right
    → closing (spelled inner ++ (right ∷ back)) 0 ≡ length (spelled inner)
closing-inner len inner right back l closes =
    let one = closing-spelled len inner 0 (right ∷ back) l in
    let two = ap (λ o. closing_at o (closing back)) (depth_of right.kind kind.Right 0 closes) in
    omega (arith, one, two)
