-- Tokens spell one tree.
use Rattle.std.proofs.Common.{◌≡◌, List, [], ◌∷◌, ◌++◌, refl, sym, ◌∙◌, ap, subst, append_assoc, append-nil}
use Rattle.gml_lex.specs.declared.kinds.TokenKind.TheVariants as kind
use Rattle.gml_lex.specs.declared.kinds.Token.{Token}
use Rattle.gml_reader.specs.Grammar.{Pairs, done, plain, nested, spelled, IsPlain, IsList}
use Rattle.gml_reader.proofs.TokenLists.{head_is, tail_is, none_is}

-- no pair follows: the end, or a Right
abbrev IsEnd : List Token → Type 0
IsEnd [] = Unit {0}
IsEnd (k ∷ rest) = k.kind ≡ kind.Right

-- no key stands at such an end
no_end : (key : Token) (rest ends : List Token) → key.kind ≡ kind.Key → IsEnd ends → ends ≡ key ∷ rest → ⊥
no_end key rest [] is end same = none_is key rest same
no_end key rest (k ∷ ends) is end same =
    let one : k.kind ≡ key.kind = ap (λ t. t.kind) (head_is k key ends rest same) in
    cc

-- a Left is no plain value
left_isnt_plain : (value left : Token) → value ≡ left → IsPlain value.kind → left.kind ≡ kind.Left → ⊥
left_isnt_plain value left same simple opens = subst IsPlain (ap (λ t. t.kind) same ∙ opens) simple

-- two trees whose tokens agree, and go on with no pair, are one
pub trees_meet : (t u : Pairs) (r s : List Token) → IsList t → IsList u → IsEnd r → IsEnd s → spelled t ++ r ≡ spelled u ++ s
    → (t ≡ u) × (r ≡ s)
trees_meet done done r s l m e f same = (refl, same)
trees_meet done (plain key value more) r s l m e f same = absurd (no_end key _ r m.is_key e same)
trees_meet done (nested key left inner right more) r s l m e f same = absurd (no_end key _ r m.is_key e same)
trees_meet (plain key value more) done r s l m e f same = absurd (no_end key _ s l.is_key f (sym same))
trees_meet (nested key left inner right more) done r s l m e f same = absurd (no_end key _ s l.is_key f (sym same))
trees_meet (plain key value more) (plain k v others) r s l m e f same =
    let keys : key ≡ k = head_is key k _ _ same in
    let behind = tail_is key k (value ∷ (spelled more ++ r)) (v ∷ (spelled others ++ s)) same in
    let values : value ≡ v = head_is value v _ _ behind in
    let later = trees_meet more others r s l.more m.more e f (tail_is value v (spelled more ++ r) (spelled others ++ s) behind) in
    (ap (λ t. plain t value more) keys ∙ ap (λ t. plain k t more) values ∙ ap (plain k v) later.0, later.1)
trees_meet (plain key value more) (nested k left inner right others) r s l m e f same =
    let behind = tail_is key k (value ∷ (spelled more ++ r)) (left ∷ ((spelled inner ++ (right ∷ spelled others)) ++ s)) same in
    absurd (left_isnt_plain value left (head_is value left _ _ behind) l.is_plain m.opens)
trees_meet (nested k left inner right others) (plain key value more) r s l m e f same =
    let behind = tail_is k key (left ∷ ((spelled inner ++ (right ∷ spelled others)) ++ r)) (value ∷ (spelled more ++ s)) same in
    absurd (left_isnt_plain value left (sym (head_is left value _ _ behind)) m.is_plain l.opens)
trees_meet (nested key left inner right more) (nested k opening list close others) r s l m e f same =
    let keys : key ≡ k = head_is key k _ _ same in
    let behind =
    tail_is key k (left ∷ ((spelled inner ++ (right ∷ spelled more)) ++ r))
    (opening ∷ ((spelled list ++ (close ∷ spelled others)) ++ s)) same in
    let lefts : left ≡ opening = head_is left opening _ _ behind in
    let inside : (spelled inner ++ (right ∷ spelled more)) ++ r ≡ (spelled list ++ (close ∷ spelled others)) ++ s =
    tail_is left opening _ _ behind in
    let joined : spelled inner ++ (right ∷ (spelled more ++ r)) ≡ spelled list ++ (close ∷ (spelled others ++ s)) =
    sym (append_assoc (spelled inner) (right ∷ spelled more) r) ∙ inside ∙ append_assoc (spelled list) (close ∷ spelled others) s in
    let within =
    trees_meet inner list (right ∷ (spelled more ++ r)) (close ∷ (spelled others ++ s)) l.inner m.inner l.closes m.closes joined in
    let rights : right ≡ close = head_is right close _ _ within.1 in
    let later = trees_meet more others r s l.more m.more e f (tail_is right close (spelled more ++ r) (spelled others ++ s) within.1) in (
      ap (λ t. nested t left inner right more) keys ∙ ap (λ t. nested k t inner right more) lefts
          ∙ ap (λ t. nested k opening t right more) within.0 ∙ ap (λ t. nested k opening list t more) rights
          ∙ ap (nested k opening list close) later.0,
      later.1,
    )

-- so a list of tokens spells one tree
pub one_tree : (t u : Pairs) → IsList t → IsList u → spelled t ≡ spelled u → t ≡ u
one_tree t u l m same = (trees_meet t u [] [] l m tt tt (append-nil (spelled t) ∙ same ∙ sym (append-nil (spelled u)))).0
