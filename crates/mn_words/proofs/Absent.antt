-- What words of a form say of an option that the form hasn't.
use Rattle.std.proofs.Common.{◌≡◌, ◌&&◌, ℕ, Bool, true, false, not, List, [], ◌∷◌, Option, Some, None, Result, Ok, refl, sym, ap, ◌∙◌}
use Rattle.std.specs.Prelude.{bytes_eq, codes}
use Rattle.std.proofs.lemmas.Bool.{false_from_ne_true, true≢false}
use Rattle.std.proofs.lemmas.Slice.Eq.{bytes_eq-Decides}
use Rattle.mn_base.specs.Decimal.{decimal_of}
use Rattle.mn_words.specs.declared.command.Command.TheVariants as command
use Rattle.mn_words.specs.declared.opt.Opt.{Opt}
use Rattle.mn_words.specs.declared.opt.Opt.TheVariants as opt
use Rattle.mn_words.specs.declared.opt.WordsFault.{WordsFault}
use Rattle.mn_words.specs.Items.{Item, items_of, is_cut}
use Rattle.mn_words.specs.Form.{Form, has_this_name, value_of, takes, is_new, fit, has_needed, has_bare, has_form}
use Rattle.mn_words.specs.Options.{option_or, order_in, turns_in}
use Rattle.mn_words.specs.Order.{RunView, IsRunOrder, IsEmulateOrder}
use Rattle.mn_words.specs.TheCommands.{form_of}
use Rattle.mn_words.specs.Values.{turns_of}
use Rattle.mn_words.proofs.Finding.{passes_over}

first_of : (a b : Bool) → (a && b) ≡ true → a ≡ true
first_of true b both = refl
first_of false b both = absurd cc

second_of : (a b : Bool) → (a && b) ≡ true → b ≡ true
second_of true b both = both
second_of false b both = absurd cc

-- an item of the form doesn't have the name of an option that the form hasn't
is_named_otherwise : (form : Form) (name : List ℕ) (item : Option (List ℕ)) → takes form (Some name) ≡ false → takes form item ≡ true
    → has_this_name name item ≡ false
unfolding has_this_name
is_named_otherwise form name None lacking taken = refl
is_named_otherwise form name (Some other) lacking taken = false_from_ne_true (bytes_eq other name)
    (λ same. true≢false (sym taken ∙ ap (λ (n : List ℕ). takes form (Some n)) ((bytes_eq-Decides other name).0 same) ∙ lacking))

-- so no such option stands among items that fit
none_stands : (form : Form) (name : List ℕ) (items : List Item) → takes form (Some name) ≡ false → fit form items ≡ true
    → value_of name items ≡ None
unfolding fit value_of
none_stands form name [] lacking fits = refl
none_stands form name (item ∷ items) lacking fits =
    passes_over name item (item ∷ items) items refl (is_named_otherwise form name item.name lacking
    (first_of (takes form item.name) (is_new item.name items)
    (first_of (takes form item.name && is_new item.name items) (fit form items) fits)))
    ∙ none_stands form name items lacking (second_of (takes form item.name && is_new item.name items) (fit form items) fits)

-- the items of words of a form fit
they_fit : (form : Form) (words : List (List ℕ)) → has_form form words ≡ true → fit form (items_of words) ≡ true
unfolding has_form
they_fit form words of_form = from (not (is_cut words)) (fit form (items_of words)) (has_needed form (items_of words))
    (has_bare form (items_of words)) of_form
  where
    from : (a b c d : Bool) → (a && b && c && d) ≡ true → b ≡ true
    from true true c d all = refl
    from false b c d all = absurd cc
    from true false c d all = absurd cc

-- so words of a form that lacks an option don't have it
pub lacks : (form : Form) (name : List ℕ) (words : List (List ℕ)) → takes form (Some name) ≡ false → has_form form words ≡ true
    → value_of name (items_of words) ≡ None
lacks form name words lacking of_form = none_stands form name (items_of words) lacking (they_fit form words of_form)

-- and its value is the one that holds without it
without : {A : Type 0} (option : Opt) (name : List ℕ) (default : A) (read : List ℕ → Option A) (items : List Item)
    → value_of name items ≡ None → option_or option name default read items ≡ Ok default
without option name default read items none = rw none refl

-- words of the form of `emulate` ask for no turns in an order of their own
pub emulates : (words : List (List ℕ)) (order : RunView) → has_form (form_of command.Emulate) words ≡ true → IsRunOrder order
    → order_in (items_of words) ≡ Ok order.order → turns_in (items_of words) ≡ Ok order.turns → IsEmulateOrder order
unfolding form_of takes
emulates words order of_form run order_is turns_is = record {
  run = run;
  number = zero order.order (without opt.Order (codes "--order") 0 decimal_of (items_of words)
      (lacks (form_of command.Emulate) (codes "--order") words refl of_form)) order_is;
  turns = zero order.turns (without opt.Turns (codes "--turns") 0 turns_of (items_of words)
      (lacks (form_of command.Emulate) (codes "--turns") words refl of_form)) turns_is;
}
  where
    zero : {found : Result ℕ WordsFault} (n : ℕ) → found ≡ Ok 0 → found ≡ Ok n → n ≡ 0
    zero n none is = cc
