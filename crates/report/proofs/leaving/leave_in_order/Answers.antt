use Rattle.std.proofs.Common.{◌≡◌, [], drop, sym, subst, arith}
use Rattle.std.proofs.lemmas.List.{at_drop_all}
use Rattle.report.specs.Leaving.{left_ticks}
use Rattle.report.proofs.InOrder.{RiseFrom, in_order}
use Rattle.report.proofs.leaving.leave_in_order.Goals as goal

pub returns : goal.returns
returns c = λ same.
    let rest : left_ticks (drop c.loop-fate.fate-index c.args.fates.now) ≡ [] =
    at_drop_all (λ fates. left_ticks fates) c.args.fates.now c.loop-fate.fate-index (omega (arith, c.loop-fate-test.false)) in
    in_order 0 (left_ticks c.args.fates.now) (c.loop-fate.invariant (subst (RiseFrom c.loop-fate.last) (sym rest) tt))
