-- Looking for an option or a bare word, and whether items fit, one item after another.
use denote.Ref.{Bor}
use Rattle.std.proofs.Common.{◌≡◌, ◌≤◌, ◌&&◌, ◌||◌, ℕ, Bool, length, Ok, true, false, not, List, [], ◌∷◌, Option, Some, None, is_some, is_none, refl, sym, ap, subst, ◌∙◌, arith}
use Rattle.std.specs.Option.{option_copied}
use Rattle.mn_words.specs.Items.{Item, items_of, is_cut, TakesFirstItem, TakesOneItem, TakesNoItem}
use Rattle.mn_words.specs.Form.{Form, has_this_name, value_of, bare_words, takes, is_new, fits_before, fit, has_needed, has_bare, has_form, is_some_word}

-- what was taken is the item that it is
pub takes_nothing : (old new : List (List ℕ)) (next : Option Item) → next ≡ None → TakesFirstItem old new (Ok next) → TakesNoItem old false
takes_nothing old new None is takes = takes
takes_nothing old new (Some item) is takes = absurd cc

pub takes_item : (old new : List (List ℕ)) (next : Option Item) (item : Item) → next ≡ Some item → TakesFirstItem old new (Ok next) → TakesOneItem old new item
takes_item old new next item is takes = subst (λ n. TakesFirstItem old new (Ok n)) is takes

-- where an item has another name, what is found after it is what is found
pub passes_over : (name : List ℕ) (item : Item) (all rest : List Item) → all ≡ item ∷ rest → has_this_name name item.name ≡ false
    → value_of name all ≡ value_of name rest
unfolding value_of
passes_over name item all rest is other = rw (is, other) refl

-- where an item has the name, its value is found
pub finds : (name : List ℕ) (item : Item) (all rest : List Item) → all ≡ item ∷ rest → has_this_name name item.name ≡ true
    → value_of name all ≡ Some item.value
unfolding value_of
finds name item all rest is named = rw (is, named) refl

pub finds_none : (name : List ℕ) (items : List Item) → items ≡ [] → value_of name items ≡ None
unfolding value_of
finds_none name items none = rw none refl

-- an option is no bare word, and a bare word is one
pub bare-over : (item : Item) (all rest : List Item) → all ≡ item ∷ rest → is_none item.name ≡ false → bare_words all ≡ bare_words rest
unfolding bare_words
bare-over item all rest is option = rw (is, option) refl

pub bare-first : (item : Item) (all rest : List Item) → all ≡ item ∷ rest → is_none item.name ≡ true
    → bare_words all ≡ item.value ∷ bare_words rest
unfolding bare_words
bare-first item all rest is bare = rw (is, bare) refl

pub bare-none : (items : List Item) → items ≡ [] → bare_words items ≡ []
unfolding bare_words
bare-none items none = rw none refl

-- words that aren't cut, and whose items fit
abbrev pub fit_whole : Form → List (List ℕ) → Bool
fit_whole form words = not (is_cut words) && fit form (items_of words)

and_false : (b : Bool) → (b && false) ≡ false
and_false true = refl
and_false false = refl

-- where an item fits, whether those after it fit is whether all do
pub fits_so_far : (form : Form) (item : Item) (old new : List (List ℕ)) → TakesOneItem old new item
    → fits_before form item (items_of new) ≡ true → fit_whole form old ≡ fit_whole form new
unfolding fit
fits_so_far form item old new taken holds = rw (taken.items, taken.cut, holds) refl

-- where an item doesn't, not all do
pub fits_not : (form : Form) (item : Item) (old new : List (List ℕ)) → TakesOneItem old new item
    → fits_before form item (items_of new) ≡ false → fit_whole form old ≡ false
unfolding fit
fits_not form item old new taken fails = rw (taken.items, fails) (and_false (not (is_cut old)))

-- no items fit
pub fits_nothing : (form : Form) (words : List (List ℕ)) → TakesNoItem words false → fit_whole form words ≡ true
unfolding fit
fits_nothing form words none = rw (none.items, none.cut) refl

-- and cut words don't
pub cut_fits_not : (form : Form) (words : List (List ℕ)) → TakesNoItem words true → fit_whole form words ≡ false
cut_fits_not form words cut = rw cut.cut refl

and_true : (b : Bool) → b ≡ (b && true)
and_true true = refl
and_true false = refl

-- a bare word fits where the form has bare words
pub fits_bare : (form : Form) (item : Item) (after : List Item) → item.name ≡ None → takes form None ≡ fits_before form item after
unfolding is_new
fits_bare form item after is = rw is (and_true (takes form None))

pub some_copied : (value : Option (Bor (List ℕ))) → is_some (option_copied value) ≡ is_some value
some_copied None = refl
some_copied (Some v) = refl

-- an option of the form fits where no later one has its name
pub fits_option : (form : Form) (item : Item) (after : List Item) (name : List ℕ) → item.name ≡ Some name
    → takes form (Some name) ≡ true → not (is_some (value_of name after)) ≡ fits_before form item after
unfolding is_new
fits_option form item after name is takes_it = rw (is, takes_it) refl

-- and an option that isn't doesn't
pub fits_no_option : (form : Form) (item : Item) (after : List Item) (name : List ℕ) → item.name ≡ Some name
    → takes form (Some name) ≡ false → false ≡ fits_before form item after
fits_no_option form item after name is takes_not = rw (is, takes_not) refl

-- whether an item is a bare word, as the program asks
pub bare_here : (item : Item) (name : Option (Bor (List ℕ))) (none : Bool) → item.name ≡ option_copied name
    → is_some name ≡ not none → is_none item.name ≡ none
bare_here item name none is asked = ap (λ n. is_none n) is ∙ of name none asked
  where
    of : (name : Option (Bor (List ℕ))) (none : Bool) → is_some name ≡ not none → is_none (option_copied name) ≡ none
    of None true asked = refl
    of None false asked = absurd cc
    of (Some text) true asked = absurd cc
    of (Some text) false asked = refl

last_of : (a b c d : Bool) → (a && b && c && d) ≡ true → d ≡ true
last_of true true true d all = all
last_of false b c d all = absurd cc
last_of true false c d all = absurd cc
last_of true true false d all = absurd cc

some_word : (words : List (List ℕ)) → is_some_word words ≡ true → 1 ≤ length words
some_word [] some = absurd cc
some_word (word ∷ words) some = omega arith

-- words of a form with bare words have one
pub asks_bare : (form : Form) (words : List (List ℕ)) → form.takes_bare ≡ true → has_form form words ≡ true
    → 1 ≤ length (bare_words (items_of words))
unfolding has_form has_bare
asks_bare form words takes_them of_form = some_word (bare_words (items_of words))
    (sym (ap (λ b. not b || is_some_word (bare_words (items_of words))) takes_them)
    ∙ last_of (not (is_cut words)) (fit form (items_of words)) (has_needed form (items_of words)) (has_bare form (items_of words)) of_form)
