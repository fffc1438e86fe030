-- What completes a file: the tokens that may follow where so many lists are open.
use Rattle.std.proofs.Common.{◌≡◌, ◌⊎◌, ℕ, zero, suc, List, [], ◌∷◌, ◌++◌, refl, inl}
use Rattle.gml_lex.specs.declared.kinds.TokenKind.TheVariants as kind
use Rattle.gml_lex.specs.declared.kinds.Token.{Token}
use Rattle.gml_reader.specs.declared.grammar.Wanted.{Wanted}
use Rattle.gml_reader.specs.declared.grammar.Wanted.TheVariants as wanted
use Rattle.gml_reader.specs.Grammar.{Pairs, done, plain, nested, spelled, IsPlain, IsList, IsFile}
use Rattle.gml_reader.proofs.TokenLists.{none_is}

-- what ends an open list: its other pairs, its Right, and then an end of what is around it
pub record EndsOpen (Around : List Token → Type 0) (rest : List Token) : Type 0 where
  pub inner : Pairs
  pub right : Token
  pub back : List Token
  pub list : IsList inner
  pub closes : right.kind ≡ kind.Right
  pub spelled_is : rest ≡ spelled inner ++ (right ∷ back)
  pub around : Around back

-- what ends so many open lists and then the file
abbrev pub EndsList : ℕ → List Token → Type 0
EndsList zero rest = IsFile rest
EndsList (suc d) rest = EndsOpen (EndsList d) rest

-- what follows a token that is a value: such an end, of one list more where the token opens one
abbrev pub EndsAfter : ℕ → Token → List Token → Type 0
EndsAfter d value back = (IsPlain value.kind × EndsList d back) ⊎ ((value.kind ≡ kind.Left) × EndsList (suc d) back)

-- a value, and then such an end
pub record EndsValue (d : ℕ) (rest : List Token) : Type 0 where
  pub value : Token
  pub back : List Token
  pub rest_is : rest ≡ value ∷ back
  pub after : EndsAfter d value back

-- what ends a file where this is wanted next
abbrev pub Ends : Wanted → ℕ → List Token → Type 0
Ends wanted.KeyOrEnd d rest = EndsList d rest
Ends wanted.Value d rest = EndsValue d rest

-- the tokens of pairs end the file
pub ends_file : (file : Pairs) → IsList file → EndsList zero (spelled file)
ends_file file list = record { file = file; list = list; spelled_is = refl }

-- pairs and a Right end one list more than what follows them
pub ends_open : (d : ℕ) (inner : Pairs) (right : Token) (back : List Token) → IsList inner → right.kind ≡ kind.Right → EndsList d back
    → EndsList (suc d) (spelled inner ++ (right ∷ back))
ends_open d inner right back list closes around = record {
  inner = inner;
  right = right;
  back = back;
  list = list;
  closes = closes;
  spelled_is = refl;
  around = around;
}

-- ---- every state can be ended
some_right : Token
some_right = record { kind = kind.Right; start = 0; end = 0 }

some_integer : Token
some_integer = record { kind = kind.Integer; start = 0; end = 0 }

-- as many Rights as lists are open end them
some_list_end : (d : ℕ) → (rest : List Token) × EndsList d rest
unfolding some_right
some_list_end zero = ([], ends_file done tt)
some_list_end (suc d) =
    let later = some_list_end d in
    (some_right ∷ later.0, ends_open d done some_right later.0 tt refl later.1)

-- and before them any integer is a value
pub some_end : (w : Wanted) (d : ℕ) → (rest : List Token) × Ends w d rest
unfolding some_integer
some_end wanted.KeyOrEnd d = some_list_end d
some_end wanted.Value d =
    let later = some_list_end d in
    (some_integer ∷ later.0, record { value = some_integer; back = later.0; rest_is = refl; after = inl (tt, later.1) })

-- ---- an end of nothing
-- an open list has a Right to come
no_list_end : (inner : Pairs) (right : Token) (back : List Token) → [] ≡ spelled inner ++ (right ∷ back) → ⊥
no_list_end done right back e = none_is right back e
no_list_end (plain key value more) right back e = none_is key _ e
no_list_end (nested key left inner close more) right back e = none_is key _ e

pub open_is_no_file : (d : ℕ) → EndsList (suc d) [] → ⊥
open_is_no_file d ends = no_list_end ends.inner ends.right ends.back ends.spelled_is

-- and a key has a value to come
pub key_is_no_file : (d : ℕ) → EndsValue d [] → ⊥
key_is_no_file d ends = none_is ends.value ends.back ends.rest_is
