use Rattle.std.proofs.Common.{◌≡◌, true, false, [], ℕ, Option, Some, None, ap, sym, ◌∙◌, refl, arith}
use Rattle.std.specs.Option.{option_map, unwrap_or}
use Rattle.std.proofs.lemmas.Bool.Decides.{nat_tests}
use Rattle.pcapng_in.specs.declared.rate.TheConstants.{RATE_DEFAULT}
use Rattle.pcapng_in.specs.Options.{has_option, runs_past, option_at, after_option, found_after}
use Rattle.pcapng_in.proofs.OptionLists.{rate_from, rate_from-step, options-none}
use Rattle.pcapng_in.proofs.rate.rate.Goals as goal
use Rattle.pcapng_in.proofs.rate.rate.Goals.{then-options-test+else-half-ne0, else-options-test}

pub options-preserved : goal.options-preserved
options-preserved c =
    let order = c.args.order in
    let rest = c.options.rest.now in
    let has : has_option order rest ≡ true = grind (arith, nat_tests) in
    let fits : runs_past order rest ≡ false = grind (arith, nat_tests) in
    let found_is : c.found_after-found.result ≡ found_after c.options.found (option_at order rest) = cc in
    let rest_is : c.split_at-in-options-2.result.1.now ≡ after_option order rest = cc in
    rw (found_is, rest_is) (c.options.invariant ∙ rate_from-step c.options.found order rest has fits)

-- what was found counts, and no option is left
found_or_default : (found : Option (Option ℕ)) → Some (unwrap_or found (Some RATE_DEFAULT)) ≡ option_map (rate_from found) (Some [])
found_or_default None = refl
found_or_default (Some told) = refl

pub returns : goal.returns
returns c =
    let order = c.args.order in
    let rest = c.options.rest.now in
    let none : has_option order rest ≡ false =
    elim c.options-test.branch [ then-options-test+else-half-ne0 w ↦ grind (arith, nat_tests) | else-options-test w ↦ grind (arith, nat_tests) ] in
    rw c.unwrap_or.ensures
    (found_or_default c.options.found ∙ ap (option_map (rate_from c.options.found)) (sym (options-none order rest none)) ∙ sym c.options.invariant)
