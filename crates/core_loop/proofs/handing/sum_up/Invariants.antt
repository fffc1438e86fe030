use Rattle.std.proofs.Common.{take}
use Rattle.core_loop.proofs.Sums.{IsSumOf}
use Rattle.core_loop.proofs.handing.sum_up.Given as goal

abbrev pub invariant-loop-each : goal.invariant-loop-each
invariant-loop-each l = IsSumOf l.number (take l.each-index l.told) l.sent
