use Rattle.std.proofs.Common.{drop}
use Rattle.report.specs.Leaving.{left_ticks}
use Rattle.report.proofs.InOrder.{RiseFrom}
use Rattle.report.proofs.leaving.leave_in_order.Given as goal

abbrev pub invariant-loop-fate : goal.invariant-loop-fate
invariant-loop-fate l = RiseFrom l.last (left_ticks (drop l.fate-index l.fates)) → RiseFrom 0 (left_ticks l.fates)
