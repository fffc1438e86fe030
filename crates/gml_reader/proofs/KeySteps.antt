-- A key where a key or an end is wanted: a value is wanted after it.
use Rattle.std.proofs.Common.{◌≡◌, ℕ, zero, suc, List, ◌∷◌, ◌++◌, sym, ◌∙◌, ap, inl, inr, append_assoc}
use Rattle.gml_lex.specs.declared.kinds.TokenKind.TheVariants as kind
use Rattle.gml_lex.specs.declared.kinds.Token.{Token}
use Rattle.gml_reader.specs.Grammar.{Pairs, done, plain, nested, spelled, IsPlain, IsList}
use Rattle.gml_reader.proofs.TokenLists.{tail_is, no_head, key_isnt_right}
use Rattle.gml_reader.proofs.Ends.{EndsList, EndsValue, ends_file, ends_open}

-- ---- from the list to its value
-- a file that begins with the key goes on with its value
key_of_file : (file : Pairs) (k : Token) (rest : List Token) → IsList file → k ∷ rest ≡ spelled file → EndsValue zero rest
key_of_file done k rest list same = absurd (no_head k rest same)
key_of_file (plain key value more) k rest list same = record {
  value = value;
  back = spelled more;
  rest_is = tail_is k key rest (value ∷ spelled more) same;
  after = inl (list.is_plain, ends_file more list.more);
}
key_of_file (nested key left inner right more) k rest list same = record {
  value = left;
  back = spelled inner ++ (right ∷ spelled more);
  rest_is = tail_is k key rest (left ∷ (spelled inner ++ (right ∷ spelled more))) same;
  after = inr (list.opens, ends_open zero inner right (spelled more) list.inner list.closes (ends_file more list.more));
}

-- and so does the rest of an open list
key_of_list : (d : ℕ) (inner : Pairs) {k : Token} (right : Token) {rest : List Token} (back : List Token) → k.kind ≡ kind.Key → IsList inner
    → right.kind ≡ kind.Right → k ∷ rest ≡ spelled inner ++ (right ∷ back) → EndsList d back → EndsValue (suc d) rest
key_of_list d done {k} right {rest} back is list closes same around = absurd (key_isnt_right k right rest back same is closes)
key_of_list d (plain key value more) {k} right {rest} back is list closes same around = record {
  value = value;
  back = spelled more ++ (right ∷ back);
  rest_is = tail_is k key rest (value ∷ (spelled more ++ (right ∷ back))) same;
  after = inl (list.is_plain, ends_open d more right back list.more closes around);
}
key_of_list d (nested key left inner close more) {k} right {rest} back is list closes same around =
    let later = spelled more ++ (right ∷ back) in
    let joined : (spelled inner ++ (close ∷ spelled more)) ++ (right ∷ back) ≡ spelled inner ++ (close ∷ later) =
    append_assoc (spelled inner) (close ∷ spelled more) (right ∷ back) in
    record {
      value = left;
      back = spelled inner ++ (close ∷ later);
      rest_is =
          tail_is k key rest (left ∷ ((spelled inner ++ (close ∷ spelled more)) ++ (right ∷ back))) same ∙ ap (λ ts. left ∷ ts) joined;
      after =
          inr
          (list.opens, ends_open (suc d) inner close later list.inner list.closes (ends_open d more right back list.more closes around));
    }

pub key_to : (d : ℕ) (k : Token) (rest : List Token) → k.kind ≡ kind.Key → EndsList d (k ∷ rest) → EndsValue d rest
key_to zero k rest is ends = key_of_file ends.file k rest ends.list ends.spelled_is
key_to (suc d) k rest is ends =
    key_of_list d ends.inner ends.right ends.back is ends.list ends.closes ends.spelled_is ends.around

-- ---- from the value to the list
-- a key with a plain value, before an end, is one pair more
plain_from : (d : ℕ) (k value : Token) (rest back : List Token) → k.kind ≡ kind.Key → IsPlain value.kind → rest ≡ value ∷ back
    → EndsList d back → EndsList d (k ∷ rest)
plain_from zero k value rest back is simple same ends = record {
  file = plain k value ends.file;
  list = record { is_key = is; is_plain = simple; more = ends.list };
  spelled_is = ap (λ ts. k ∷ ts) (same ∙ ap (λ ts. value ∷ ts) ends.spelled_is);
}
plain_from (suc d) k value rest back is simple same ends = record {
  inner = plain k value ends.inner;
  right = ends.right;
  back = ends.back;
  list = record { is_key = is; is_plain = simple; more = ends.list };
  closes = ends.closes;
  spelled_is = ap (λ ts. k ∷ ts) (same ∙ ap (λ ts. value ∷ ts) ends.spelled_is);
  around = ends.around;
}

-- pairs within a Left and a Right, whose tokens these are
record IsInner (left right : Token) (inner : Pairs) (rest back : List Token) : Type 0 where
  opens : left.kind ≡ kind.Left
  list : IsList inner
  closes : right.kind ≡ kind.Right
  rest_is : rest ≡ left ∷ (spelled inner ++ (right ∷ back))

-- a key with a list, before an end, is one pair more
nested_from : (d : ℕ) (k left right : Token) (inner : Pairs) (rest back : List Token) → k.kind ≡ kind.Key
    → IsInner left right inner rest back → EndsList d back → EndsList d (k ∷ rest)
nested_from zero k left right inner rest back is within ends = record {
  file = nested k left inner right ends.file;
  list = record { is_key = is; opens = within.opens; inner = within.list; closes = within.closes; more = ends.list };
  spelled_is = ap (λ ts. k ∷ ts) (within.rest_is ∙ ap (λ ts. left ∷ (spelled inner ++ (right ∷ ts))) ends.spelled_is);
}
nested_from (suc d) k left right inner rest back is within ends =
    let more = ends.inner in
    let later = ends.right ∷ ends.back in
    let joined : spelled inner ++ (right ∷ (spelled more ++ later)) ≡ (spelled inner ++ (right ∷ spelled more)) ++ later =
    sym (append_assoc (spelled inner) (right ∷ spelled more) later) in
    record {
      inner = nested k left inner right more;
      right = ends.right;
      back = ends.back;
      list = record { is_key = is; opens = within.opens; inner = within.list; closes = within.closes; more = ends.list };
      closes = ends.closes;
      spelled_is = ap (λ ts. k ∷ ts) (
          within.rest_is ∙ ap (λ ts. left ∷ (spelled inner ++ (right ∷ ts))) ends.spelled_is ∙ ap (λ ts. left ∷ ts) joined);
      around = ends.around;
    }

pub key_from : (d : ℕ) (k : Token) (rest : List Token) → k.kind ≡ kind.Key → EndsValue d rest → EndsList d (k ∷ rest)
key_from d k rest is ends =
    elim ends.after [
      | inl alone ↦ plain_from d k ends.value rest ends.back is alone.0 ends.rest_is alone.1
      | inr opened ↦
          let open_list = opened.1 in
          nested_from d k ends.value open_list.right open_list.inner rest open_list.back is (record {
            opens = opened.0;
            list = open_list.list;
            closes = open_list.closes;
            rest_is = ends.rest_is ∙ ap (λ ts. ends.value ∷ ts) open_list.spelled_is;
          }) open_list.around
    ]
