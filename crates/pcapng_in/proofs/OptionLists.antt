-- The options of a body, one by one.
use Rattle.std.proofs.Common.{◌≡◌, ℕ, zero, suc, ◌≤◌, true, false, ◌==◌, if◌then◌else◌, List, [], ◌∷◌, length, drop, length-drop, Option, Some, None, refl, ap, ◌∙◌, inl, inr, arith}
use Rattle.std.specs.Option.{option_map}
use Rattle.std.proofs.lemmas.Bool.{cases_Bool}
use Rattle.std.proofs.lemmas.Bool.Decides.{nat_tests}
use Rattle.pcap_io.specs.declared.form.ByteOrder.{ByteOrder}
use Rattle.pcapng_in.specs.declared.rate.TheConstants.{RESOLUTION}
use Rattle.pcapng_in.specs.Options.{InterfaceOption, option_length, padded, has_option, runs_past, option_at, after_option, options_up_to, options, rate, found_after}

-- an option takes four bytes and more
after_option-shorter : (n : ℕ) (order : ByteOrder) (body : List ℕ) → has_option order body ≡ true → length body ≤ suc n
    → length (after_option order body) ≤ n
after_option-shorter n order body has few =
    let four : 4 ≤ length body = grind (arith, nat_tests) in
    omega (arith, four, length-drop (padded (option_length order body)) (drop 4 body), length-drop 4 body)

-- more turns than bytes change nothing
pub options_up_to-enough : (n m : ℕ) (order : ByteOrder) (body : List ℕ) → length body ≤ n → length body ≤ m
    → options_up_to n order body ≡ options_up_to m order body
options_up_to-enough zero zero order body few few' = refl
options_up_to-enough zero (suc m) order [] few few' = refl
options_up_to-enough zero (suc m) order (b ∷ bs) few few' = absurd (omega arith)
options_up_to-enough (suc n) zero order [] few few' = refl
options_up_to-enough (suc n) zero order (b ∷ bs) few few' = absurd (omega arith)
options_up_to-enough (suc n) (suc m) order body few few' =
    elim (cases_Bool (has_option order body)) [
      | inl has ↦
          let shorter = after_option-shorter n order body has few in
          let shorter' = after_option-shorter m order body has few' in
          let others = options_up_to-enough n m order (after_option order body) shorter shorter' in
          ap (λ (os : Option (List InterfaceOption)).
          if has_option order body then (if runs_past order body then None else option_map (λ tail. option_at order body ∷ tail) os) else Some []) others
      | inr none ↦ rw (none) refl
    ]

-- an option that doesn't run past the body, and those after it
pub options-more : (order : ByteOrder) (body : List ℕ) → has_option order body ≡ true → runs_past order body ≡ false
    → options order body ≡ option_map (λ others. option_at order body ∷ others) (options order (after_option order body))
options-more order [] has fits = absurd (grind (arith, nat_tests))
options-more order (b ∷ bs) has fits =
    rw (has, fits)
    (ap (option_map (λ others. option_at order (b ∷ bs) ∷ others))
    (options_up_to-enough (length bs) (length (after_option order (b ∷ bs))) order (after_option order (b ∷ bs))
    (after_option-shorter (length bs) order (b ∷ bs) has (omega arith)) (omega arith)))

pub options-past : (order : ByteOrder) (body : List ℕ) → has_option order body ≡ true → runs_past order body ≡ true
    → options order body ≡ None
options-past order [] has past = absurd (grind (arith, nat_tests))
options-past order (b ∷ bs) has past = rw (has, past) refl

pub options-none : (order : ByteOrder) (body : List ℕ) → has_option order body ≡ false → options order body ≡ Some []
options-none order [] none = refl
options-none order (b ∷ bs) none = rw none refl

-- the first resolution counts: one that was found, or that of the options left
abbrev pub rate_from : Option (Option ℕ) → List InterfaceOption → Option ℕ
rate_from None left = rate left
rate_from (Some told) left = told

pub rate_from-more : (found : Option (Option ℕ)) (option : InterfaceOption) (left : List InterfaceOption)
    → rate_from found (option ∷ left) ≡ rate_from (found_after found option) left
rate_from-more (Some told) option left = refl
rate_from-more None option left =
    elim (cases_Bool (option.code == RESOLUTION)) [
      | inl is ↦ rw is refl
      | inr other ↦ rw other refl
    ]

rate_from-mapped : (found : Option (Option ℕ)) (here : InterfaceOption) (told : Option (List InterfaceOption))
    → option_map (rate_from found) (option_map (λ others. here ∷ others) told) ≡ option_map (rate_from (found_after found here)) told
rate_from-mapped found here None = refl
rate_from-mapped found here (Some others) = ap Some (rate_from-more found here others)

-- the answer so far stays the answer over the options left
pub rate_from-step : (found : Option (Option ℕ)) (order : ByteOrder) (body : List ℕ) → has_option order body ≡ true
    → runs_past order body ≡ false
    → option_map (rate_from found) (options order body)
    ≡ option_map (rate_from (found_after found (option_at order body))) (options order (after_option order body))
rate_from-step found order body has fits =
    let here = option_at order body in
    ap (option_map (rate_from found)) (options-more order body has fits) ∙ rate_from-mapped found here (options order (after_option order body))
