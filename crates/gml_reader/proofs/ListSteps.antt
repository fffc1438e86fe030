-- A token where a key or an end is wanted: a key, or the Right of an open list, and no other.
use Rattle.std.proofs.Common.{◌≡◌, ◌⊎◌, ℕ, zero, suc, List, ◌∷◌, ◌++◌, sym, ◌∙◌, subst, inl, inr, Some, None}
use Rattle.std.proofs.lemmas.Option.{same_Some}
use Rattle.gml_lex.specs.declared.kinds.TokenKind.{TokenKind}
use Rattle.gml_lex.specs.declared.kinds.TokenKind.TheVariants as kind
use Rattle.gml_lex.specs.declared.kinds.Token.{Token}
use Rattle.gml_reader.specs.declared.grammar.Wanted.{Wanted}
use Rattle.gml_reader.specs.declared.grammar.Wanted.TheVariants as wanted
use Rattle.gml_reader.specs.Grammar.{Pairs, done, plain, nested, spelled, IsList}
use Rattle.gml_reader.specs.States.{after}
use Rattle.gml_reader.proofs.TokenLists.{head_is, tail_is, no_head, kind_of_same, key_isnt_right, key≢right}
use Rattle.gml_reader.proofs.Ends.{EndsList, Ends, ends_open}
use Rattle.gml_reader.proofs.KeySteps.{key_to, key_from}

-- what ends the file after a token, by what is wanted there
abbrev pub EndsAt : Wanted × ℕ → List Token → Type 0
EndsAt p rest = Ends p.0 p.1 rest

pub nothing : {P : Type 0} (p : Wanted × ℕ) → None ≡ Some p → P
nothing p e = cc

-- the state after a token, where a rule names it
pub to_state : (q p : Wanted × ℕ) (rest : List Token) → Some q ≡ Some p → EndsAt q rest → EndsAt p rest
to_state q p rest e ends = subst (λ s. EndsAt s rest) (same_Some q p e) ends

pub from_state : (q p : Wanted × ℕ) (rest : List Token) → Some q ≡ Some p → EndsAt p rest → EndsAt q rest
from_state q p rest e ends = subst (λ s. EndsAt s rest) (sym (same_Some q p e)) ends

-- ---- a Right
-- no pair begins with it, so the open list has no further pair
right_of_list : (d : ℕ) (inner : Pairs) (k right : Token) (rest back : List Token) → k.kind ≡ kind.Right → IsList inner
    → k ∷ rest ≡ spelled inner ++ (right ∷ back) → EndsList d back → EndsList d rest
right_of_list d done k right rest back is list same ends = subst (EndsList d) (sym (tail_is k right rest back same)) ends
right_of_list d (plain key value more) k right rest back is list same ends =
    absurd (key_isnt_right key k _ rest (sym same) list.is_key is)
right_of_list d (nested key left inner close more) k right rest back is list same ends =
    absurd (key_isnt_right key k _ rest (sym same) list.is_key is)

right_to : (d : ℕ) (k : Token) (rest : List Token) → k.kind ≡ kind.Right → EndsList (suc d) (k ∷ rest) → EndsList d rest
right_to d k rest is ends = right_of_list d ends.inner k ends.right rest ends.back is ends.list ends.spelled_is ends.around

-- and before an end it ends one list more
right_from : (d : ℕ) (k : Token) (rest : List Token) → k.kind ≡ kind.Right → EndsList d rest → EndsList (suc d) (k ∷ rest)
right_from d k rest is ends = ends_open d done k rest tt is ends

-- ---- what begins an end
-- a file begins with a key
file_begins : (file : Pairs) (k : Token) (rest : List Token) → IsList file → k ∷ rest ≡ spelled file → k.kind ≡ kind.Key
file_begins done k rest list same = absurd (no_head k rest same)
file_begins (plain key value more) k rest list same =
    kind_of_same k key kind.Key (head_is k key rest (value ∷ spelled more) same) list.is_key
file_begins (nested key left inner right more) k rest list same =
    kind_of_same k key kind.Key (head_is k key rest (left ∷ (spelled inner ++ (right ∷ spelled more))) same) list.is_key

-- the rest of an open list begins with a key or a Right
list_begins : (inner : Pairs) (k right : Token) (rest back : List Token) → IsList inner → right.kind ≡ kind.Right
    → k ∷ rest ≡ spelled inner ++ (right ∷ back) → (k.kind ≡ kind.Key) ⊎ (k.kind ≡ kind.Right)
list_begins done k right rest back list closes same = inr (kind_of_same k right kind.Right (head_is k right rest back same) closes)
list_begins (plain key value more) k right rest back list closes same =
    inl (kind_of_same k key kind.Key (head_is k key rest _ same) list.is_key)
list_begins (nested key left inner close more) k right rest back list closes same =
    inl (kind_of_same k key kind.Key (head_is k key rest _ same) list.is_key)

begins : (d : ℕ) (k : Token) (rest : List Token) → EndsList d (k ∷ rest) → (k.kind ≡ kind.Key) ⊎ (k.kind ≡ kind.Right)
begins zero k rest ends = inl (file_begins ends.file k rest ends.list ends.spelled_is)
begins (suc d) k rest ends = list_begins ends.inner k ends.right rest ends.back ends.list ends.closes ends.spelled_is

-- so no token of another kind begins an end
not_begun : (d : ℕ) (k : Token) (rest : List Token) (kd : TokenKind) → k.kind ≡ kd → (kd ≡ kind.Key → ⊥) → (kd ≡ kind.Right → ⊥)
    → EndsList d (k ∷ rest) → ⊥
not_begun d k rest kd is no_key no_right ends =
    elim (begins d k rest ends) [ inl key ↦ no_key (sym is ∙ key) | inr right ↦ no_right (sym is ∙ right) ]

-- ---- by the token's kind
-- an end that begins with the token goes on as the state after it says
pub list_to : (kd : TokenKind) (d : ℕ) (k : Token) (p : Wanted × ℕ) (rest : List Token) → k.kind ≡ kd
    → after wanted.KeyOrEnd d kd ≡ Some p → EndsList d (k ∷ rest) → EndsAt p rest
list_to kind.Key d k p rest is e ends = to_state (wanted.Value, d) p rest e (key_to d k rest is ends)
list_to kind.Integer d k p rest is e ends = nothing p e
list_to kind.Real d k p rest is e ends = nothing p e
list_to kind.Text d k p rest is e ends = nothing p e
list_to kind.Left d k p rest is e ends = nothing p e
list_to kind.Right zero k p rest is e ends = nothing p e
list_to kind.Right (suc d) k p rest is e ends = to_state (wanted.KeyOrEnd, d) p rest e (right_to d k rest is ends)

-- and what ends the file after it ends the file with it before
pub list_from : (kd : TokenKind) (d : ℕ) (k : Token) (p : Wanted × ℕ) (rest : List Token) → k.kind ≡ kd
    → after wanted.KeyOrEnd d kd ≡ Some p → EndsAt p rest → EndsList d (k ∷ rest)
list_from kind.Key d k p rest is e ends = key_from d k rest is (from_state (wanted.Value, d) p rest e ends)
list_from kind.Integer d k p rest is e ends = nothing p e
list_from kind.Real d k p rest is e ends = nothing p e
list_from kind.Text d k p rest is e ends = nothing p e
list_from kind.Left d k p rest is e ends = nothing p e
list_from kind.Right zero k p rest is e ends = nothing p e
list_from kind.Right (suc d) k p rest is e ends = right_from d k rest is (from_state (wanted.KeyOrEnd, d) p rest e ends)

-- where no state is after the token, no end begins with it
pub list_dead : (kd : TokenKind) (d : ℕ) (k : Token) (rest : List Token) → k.kind ≡ kd → after wanted.KeyOrEnd d kd ≡ None
    → EndsList d (k ∷ rest) → ⊥
list_dead kind.Key d k rest is e ends = nothing (wanted.Value, d) (sym e)
list_dead kind.Integer d k rest is e ends = not_begun d k rest kind.Integer is (λ f. cc) (λ f. cc) ends
list_dead kind.Real d k rest is e ends = not_begun d k rest kind.Real is (λ f. cc) (λ f. cc) ends
list_dead kind.Text d k rest is e ends = not_begun d k rest kind.Text is (λ f. cc) (λ f. cc) ends
list_dead kind.Left d k rest is e ends = not_begun d k rest kind.Left is (λ f. cc) (λ f. cc) ends
list_dead kind.Right zero k rest is e ends = key≢right (sym (file_begins ends.file k rest ends.list ends.spelled_is) ∙ is)
list_dead kind.Right (suc d) k rest is e ends = nothing (wanted.KeyOrEnd, d) (sym e)
