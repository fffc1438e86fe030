-- The form of a command, which says what options it has, and whether words are of that form.
use Rattle.std.specs.Prelude.{ℕ, Bool, true, false, not, ◌&&◌, ◌||◌, List, [], ◌∷◌, Option, Some, None, is_some, is_none, bytes_eq, if◌then◌else◌}
use Rattle.std.specs.List.{list_all, list_any}
use Rattle.mn_words.specs.Items.{Item, items_of, is_cut}

-- the names of the options that are required, those of the options that may stand, too, and whether there are PIPEs or MOVEs
pub record Form : Type 0 where
  pub needs : List (List ℕ)
  pub may_have : List (List ℕ)
  pub takes_bare : Bool

-- whether a list of names has this one
abbrev pub has_name : List ℕ → List (List ℕ) → Bool
has_name name names = list_any (λ other. bytes_eq name other) names

-- whether an item has this name
unfoldable pub has_this_name : List ℕ → Option (List ℕ) → Bool
has_this_name name None = false
has_this_name name (Some other) = bytes_eq other name

-- the value of the first option of this name
unfoldable pub value_of : List ℕ → List Item → Option (List ℕ)
value_of name [] = None
value_of name (item ∷ items) = if has_this_name name item.name then Some item.value else value_of name items

-- the words that neither are options nor their values: the PIPEs or MOVEs, in order
unfoldable pub bare_words : List Item → List (List ℕ)
bare_words [] = []
bare_words (item ∷ items) = if is_none item.name then item.value ∷ bare_words items else bare_words items

-- whether the form has an option of this name, or bare words
unfoldable pub takes : Form → Option (List ℕ) → Bool
takes form None = form.takes_bare
takes form (Some name) = has_name name form.needs || has_name name form.may_have

-- whether no later option has the name of an item; bare words may repeat
unfoldable pub is_new : Option (List ℕ) → List Item → Bool
is_new None items = true
is_new (Some name) items = not (is_some (value_of name items))

-- an item before others fits where it is one of the form, and none of the others is an option of its name
abbrev pub fits_before : Form → Item → List Item → Bool
fits_before form item items = takes form item.name && is_new item.name items

-- each item is one of the form, and no option stands twice
unfoldable pub fit : Form → List Item → Bool
fit form [] = true
fit form (item ∷ items) = fits_before form item items && fit form items

-- whether an option of each of these names stands
abbrev pub has_each : List (List ℕ) → List Item → Bool
has_each names items = list_all (λ name. is_some (value_of name items)) names

-- no required option is missing
unfoldable pub has_needed : Form → List Item → Bool
has_needed form items = has_each form.needs items

abbrev pub is_some_word : List (List ℕ) → Bool
is_some_word [] = false
is_some_word (word ∷ words) = true

-- a bare word stands where the form has bare words
unfoldable pub has_bare : Form → List Item → Bool
has_bare form items = not form.takes_bare || is_some_word (bare_words items)

-- of the form: no value is missing at the end, each item fits, no required option is missing, and there is a bare word where there
-- must be
unfoldable pub has_form : Form → List (List ℕ) → Bool
has_form form words =
    not (is_cut words) && fit form (items_of words) && has_needed form (items_of words) && has_bare form (items_of words)
