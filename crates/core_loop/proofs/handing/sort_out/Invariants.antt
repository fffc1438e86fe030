use Rattle.std.proofs.Common.{take}
use Rattle.core_loop.proofs.Sums.{AreSorted}
use Rattle.core_loop.proofs.handing.sort_out.Given as goal

abbrev pub invariant-loop-each : goal.invariant-loop-each
invariant-loop-each l = AreSorted l.fn.cores (take l.each-index l.told) l.notes.items
