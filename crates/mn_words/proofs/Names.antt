-- A list of names in the program, and the list of their texts.
use denote.Ref.{Bor}
use Rattle.std.proofs.Common.{◌≡◌, ◌||◌, ◌&&◌, ℕ, Bool, List, [], ◌∷◌, map, is_some, refl, ap, Some}
use Rattle.std.specs.Prelude.{bytes_eq}
use Rattle.std.specs.List.{list_any, list_all}
use Rattle.mn_words.specs.Items.{Item}
use Rattle.mn_words.specs.Form.{Form, value_of, has_name, has_each, takes}

pub has_name-texts : (name : List ℕ) (names : List (Bor (List ℕ)))
    → list_any (λ (other : Bor (List ℕ)). bytes_eq name other.now) names ≡ has_name name (map (λ (other : Bor (List ℕ)). other.now) names)
has_name-texts name [] = refl
has_name-texts name (other ∷ names) = ap (λ b. bytes_eq name other.now || b) (has_name-texts name names)

pub has_each-texts : (items : List Item) (names : List (Bor (List ℕ)))
    → list_all (λ (name : Bor (List ℕ)). is_some (value_of name.now items)) names ≡ has_each (map (λ (name : Bor (List ℕ)). name.now) names) items
has_each-texts items [] = refl
has_each-texts items (name ∷ names) = ap (λ b. is_some (value_of name.now items) && b) (has_each-texts items names)

-- an option is one of the form where its name is among those that the program looks through
pub takes_names : (form : Form) (name : List ℕ) (needs may_have : List (Bor (List ℕ))) (needed optional : Bool)
    → map (λ (other : Bor (List ℕ)). other.now) needs ≡ form.needs
    → map (λ (other : Bor (List ℕ)). other.now) may_have ≡ form.may_have
    → needed ≡ list_any (λ (other : Bor (List ℕ)). bytes_eq name other.now) needs
    → optional ≡ list_any (λ (other : Bor (List ℕ)). bytes_eq name other.now) may_have
    → (needed || optional) ≡ takes form (Some name)
unfolding takes
takes_names form name needs may_have needed optional are_needs are_optional needed_is optional_is =
    rw (needed_is, optional_is, has_name-texts name needs, has_name-texts name may_have, are_needs, are_optional) refl
