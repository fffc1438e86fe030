-- A search for a key, pair by pair.
use Rattle.std.proofs.Common.{◌≡◌, ◌≤◌, ℕ, List, ◌∷◌, length, refl}
use Rattle.gml_lex.specs.declared.kinds.Token.{Token}
use Rattle.gml_reader.specs.declared.walk.FirstPair.{FirstPair}
use Rattle.gml_reader.specs.Grammar.{Pairs, done, plain, nested, spelled}
use Rattle.gml_reader.specs.Values.{leaf, list, PairTree, pair, pairs, value_at}
use Rattle.gml_reader.specs.Walk.{IsListIn, IsValueOf, IsPairOf}
use Rattle.gml_reader.specs.Reading.{graph_in}

-- a list by its first pair and the others
pub record Parted (len : ℕ) (t : Pairs) (p : FirstPair) : Type 0 where
  pub head : PairTree
  pub more : Pairs
  pub pairs_are : pairs t ≡ head ∷ pairs more
  pub key_is : p.key ≡ head.key
  pub key_within : head.key.end ≤ len
  pub value_is : IsValueOf len head.value p.value
  pub rest_is : p.rest.now ≡ spelled more
  pub list_more : IsListIn len more

pub parted : (len : ℕ) (t : Pairs) (p : FirstPair) → IsListIn len t → IsPairOf len t p → Parted len t p
parted len done p l first = absurd first
parted len (plain key value more) p l first = record {
  head = pair key (leaf value);
  more = more;
  pairs_are = refl;
  key_is = first.key_is;
  key_within = l.key_within;
  value_is = first.value_is;
  rest_is = first.rest_is;
  list_more = l.more;
}
parted len (nested key left inner right more) p l first = record {
  head = pair key (list inner);
  more = more;
  pairs_are = refl;
  key_is = first.key_is;
  key_within = l.key_within;
  value_is = first.value_is;
  rest_is = first.rest_is;
  list_more = l.more;
}

-- what is left to search has the first value with the key
pub record Searched (text name : List ℕ) (t : Pairs) (rest : List Token) : Type 0 where
  pub left : Pairs
  pub list_left : IsListIn (length text) left
  pub rest_is : rest ≡ spelled left
  pub same : value_at text name (pairs left) ≡ value_at text name (pairs t)

-- what is left to search has the first graph
pub record SearchedGraph (text : List ℕ) (t : Pairs) (rest : List Token) : Type 0 where
  pub left : Pairs
  pub list_left : IsListIn (length text) left
  pub rest_is : rest ≡ spelled left
  pub same : graph_in text (pairs left) ≡ graph_in text (pairs t)
