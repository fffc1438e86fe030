-- What taking the first item of some words leaves.
use Rattle.std.proofs.Common.{◌≡◌, ◌<◌, ◌==◌, ℕ, true, false, nat_lt, List, [], ◌∷◌, length, Some, None, refl, ap, ◌∙◌, arith}
use Rattle.std.specs.List.{position_or_len, before_first, after_first}
use Rattle.mn_words.specs.Items.{Item, begins_option, has_value, wants_next, in_one_word, in_two_words, items_of, is_cut, TakesOneItem, TakesNoItem}

-- a word that wants no next one is an item by itself
items-one : (word : List ℕ) (words : List (List ℕ)) → wants_next word ≡ false → items_of (word ∷ words) ≡ in_one_word word ∷ items_of words
unfolding items_of
items-one word [] alone = rw alone refl
items-one word (next ∷ words) alone = rw alone refl

cut-one : (word : List ℕ) (words : List (List ℕ)) → wants_next word ≡ false → is_cut (word ∷ words) ≡ is_cut words
unfolding is_cut
cut-one word [] alone = alone
cut-one word (next ∷ words) alone = rw alone refl

-- a word that wants the next is an item with it
items-two : (word next : List ℕ) (words : List (List ℕ)) → wants_next word ≡ true
    → items_of (word ∷ next ∷ words) ≡ in_two_words word next ∷ items_of words
unfolding items_of
items-two word next words wants = rw wants refl

cut-two : (word next : List ℕ) (words : List (List ℕ)) → wants_next word ≡ true → is_cut (word ∷ next ∷ words) ≡ is_cut words
unfolding is_cut
cut-two word next words wants = rw wants refl

-- and none where it is the last
items-last : (word : List ℕ) → wants_next word ≡ true → items_of (word ∷ []) ≡ []
unfolding items_of
items-last word wants = rw wants refl

cut-last : (word : List ℕ) → wants_next word ≡ true → is_cut (word ∷ []) ≡ true
unfolding is_cut
cut-last word wants = wants

-- one word was taken, or two
shorter_by_one : (old new : List (List ℕ)) (word : List ℕ) → old ≡ word ∷ new → length new < length old
shorter_by_one old new word is = rw is (omega arith)

shorter_by_two : (old mid new : List (List ℕ)) (word next : List ℕ) → old ≡ word ∷ mid → mid ≡ next ∷ new → length new < length old
shorter_by_two old mid new word next is then = rw (is, then) (omega arith)

lt-true : {a b : ℕ} → a < b → nat_lt a b ≡ true
lt-true less = grind (arith, less)

lt-false : {a b : ℕ} → a ≡ b → nat_lt a b ≡ false
lt-false same = grind (arith, same)

takes_one : (old new : List (List ℕ)) (word : List ℕ) (item : Item) → old ≡ word ∷ new → wants_next word ≡ false
    → in_one_word word ≡ item → TakesOneItem old new item
takes_one old new word item is alone item_is = record {
  items = ap items_of is ∙ items-one word new alone ∙ ap (λ (i : Item). i ∷ items_of new) item_is;
  cut = ap is_cut is ∙ cut-one word new alone;
  shorter = shorter_by_one old new word is;
}

pub takes_bare : (old new : List (List ℕ)) (word : List ℕ) → old ≡ word ∷ new → begins_option word ≡ false
    → TakesOneItem old new (record { name = None; value = word })
takes_bare old new word is plain = takes_one old new word (record { name = None; value = word }) is (rw plain refl) (rw plain refl)

pub takes_at_once : (old new : List (List ℕ)) (word name value : List ℕ) → old ≡ word ∷ new → begins_option word ≡ true
    → position_or_len (λ b. b == 61) word < length word → name ≡ before_first (λ b. b == 61) word → value ≡ after_first (λ b. b == 61) word
    → TakesOneItem old new (record { name = Some name; value = value })
takes_at_once old new word name value is begins some name_is value_is =
    takes_one old new word (record { name = Some name; value = value }) is (rw (begins, has) refl) (rw (begins, name_is, value_is) refl)
  where
    has : has_value word ≡ true
    has = lt-true some

-- an option that wants a value
wants : (word : List ℕ) → begins_option word ≡ true → position_or_len (λ b. b == 61) word ≡ length word → wants_next word ≡ true
wants word begins none = rw (begins, has) refl
  where
    has : has_value word ≡ false
    has = lt-false none

pub takes_in_two : (old mid new : List (List ℕ)) (word next : List ℕ) → old ≡ word ∷ mid → mid ≡ next ∷ new → begins_option word ≡ true
    → position_or_len (λ b. b == 61) word ≡ length word → TakesOneItem old new (in_two_words word next)
takes_in_two old mid new word next is then begins none = record {
  items = ap items_of both ∙ items-two word next new (wants word begins none);
  cut = ap is_cut both ∙ cut-two word next new (wants word begins none);
  shorter = shorter_by_two old mid new word next is then;
}
  where
    both : old ≡ word ∷ next ∷ new
    both = is ∙ ap (λ ws. word ∷ ws) then

pub takes_none : (old mid : List (List ℕ)) (word : List ℕ) → old ≡ word ∷ mid → mid ≡ [] → begins_option word ≡ true
    → position_or_len (λ b. b == 61) word ≡ length word → TakesNoItem old true
takes_none old mid word is last begins none = record {
  items = ap items_of one ∙ items-last word (wants word begins none);
  cut = ap is_cut one ∙ cut-last word (wants word begins none);
}
  where
    one : old ≡ word ∷ []
    one = is ∙ ap (λ ws. word ∷ ws) last

-- no word is left
pub takes_no_word : (old : List (List ℕ)) → old ≡ [] → TakesNoItem old false
unfolding items_of is_cut
takes_no_word old none = record { items = ap items_of none; cut = ap is_cut none }
