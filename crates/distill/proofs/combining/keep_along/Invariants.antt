use Rattle.std.proofs.Common.{◌≡◌, ◌≤◌, take}
use Rattle.mn_base.specs.declared.limits.TheConstants.{KEEP_MAX}
use Rattle.distill.specs.Combination.{keep_along}
use Rattle.distill.proofs.combining.keep_along.Given as goal

abbrev pub invariant-loop-index : goal.invariant-loop-index
invariant-loop-index l = record { value : l.keep ≡ keep_along (take l.index l.links); most : l.keep ≤ KEEP_MAX }
