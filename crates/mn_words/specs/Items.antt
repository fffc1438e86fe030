-- The items of a list of words, from left to right: an option with its value, or a bare word. A word is the list of its bytes;
-- `=` is 61.
use Rattle.std.specs.Prelude.{◌≡◌, ◌<◌, ℕ, Bool, true, false, not, ◌&&◌, ◌==◌, nat_eq, nat_lt, length, List, [], ◌∷◌, Option, Some, None, Result, Ok, Err, codes, if◌then◌else◌}
use Rattle.std.specs.List.{starts_with, position_or_len, before_first, after_first}
use Rattle.mn_words.specs.declared.rest.Cut.{Cut}

-- an option with its value, or a bare word, which has no name
pub record Item : Type 0 where
  pub name : Option (List ℕ)
  pub value : List ℕ

-- a word that begins with `--` begins an option
abbrev pub begins_option : List ℕ → Bool
begins_option word = starts_with nat_eq word (codes "--")

-- a `=` stands in the word
abbrev pub has_value : List ℕ → Bool
has_value word = nat_lt (position_or_len (λ b. b == 61) word) (length word)

-- an option without a `=`, so that the next word is its value, whatever that is
abbrev pub wants_next : List ℕ → Bool
wants_next word = begins_option word && not (has_value word)

-- the option of a word with a `=`: its name stands before the first one, its value after it; a bare word where no option begins
abbrev pub in_one_word : List ℕ → Item
in_one_word word =
    if begins_option word
    then record { name = Some (before_first (λ b. b == 61) word); value = after_first (λ b. b == 61) word }
    else record { name = None; value = word }

-- the whole word is the name, and the next word the value
abbrev pub in_two_words : List ℕ → List ℕ → Item
in_two_words word next = record { name = Some word; value = next }

-- all items; a last option that has no value is none
unfoldable pub items_of : List (List ℕ) → List Item
items_of [] = []
items_of (word ∷ []) = if wants_next word then [] else in_one_word word ∷ []
items_of (word ∷ next ∷ words) =
    if wants_next word
    then in_two_words word next ∷ items_of words
    else in_one_word word ∷ items_of (next ∷ words)

-- the last word is an option that has no value
unfoldable pub is_cut : List (List ℕ) → Bool
is_cut [] = false
is_cut (word ∷ []) = wants_next word
is_cut (word ∷ next ∷ words) = if wants_next word then is_cut words else is_cut (next ∷ words)

-- taking the first item off
pub record TakesOneItem (old new : List (List ℕ)) (item : Item) : Type 0 where
  pub items : items_of old ≡ item ∷ items_of new
  pub cut : is_cut old ≡ is_cut new
  pub shorter : length new < length old

-- no item is left: there is no word, or the last option has no value
pub record TakesNoItem (old : List (List ℕ)) (is_missing : Bool) : Type 0 where
  pub items : items_of old ≡ []
  pub cut : is_cut old ≡ is_missing

-- what comes of taking the first item off
abbrev pub TakesFirstItem : List (List ℕ) → List (List ℕ) → Result (Option Item) Cut → Type 0
TakesFirstItem old new (Ok None) = TakesNoItem old false
TakesFirstItem old new (Ok (Some item)) = TakesOneItem old new item
TakesFirstItem old new (Err cut) = TakesNoItem old true
