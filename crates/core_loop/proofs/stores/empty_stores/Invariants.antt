use Rattle.std.proofs.Common.{◌≡◌, [], replicate}
use Rattle.std.specs.FinMap as fin
use Rattle.core_loop.proofs.stores.empty_stores.Given as goal

abbrev pub invariant-loop-core : goal.invariant-loop-core
invariant-loop-core l = l.stores.items ≡ replicate l._core (record { held = fin.empty; released = [] })
