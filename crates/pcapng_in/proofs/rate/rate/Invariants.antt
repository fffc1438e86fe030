use Rattle.std.proofs.Common.{◌≡◌, length}
use Rattle.std.specs.Option.{option_map}
use Rattle.pcapng_in.specs.Options.{options, rate}
use Rattle.pcapng_in.proofs.OptionLists.{rate_from}
use Rattle.pcapng_in.proofs.rate.rate.Given as goal

-- what was found, and the options left, tell what all options tell
abbrev pub invariant-options : goal.invariant-options
invariant-options l = option_map rate (options l.order l.body) ≡ option_map (rate_from l.found) (options l.order l.rest)

abbrev pub decreases-options : goal.decreases-options
decreases-options l = length l.rest
