use Rattle.std.proofs.Common.{sym}
use Rattle.plan.proofs.LoopSteps.{cause_more, no_cause_more}
use Rattle.plan.proofs.answering.unbound.Goals as goal
use Rattle.plan.proofs.answering.unbound.Goals.{in-Ok, in-Err+in_ok-push-in-Err}

pub loop-number-preserved : goal.loop-number-preserved
loop-number-preserved c =
    elim c.match-answer.branch [
      | in-Ok w ↦ rw (w.unbounds-is, c.loop-number.invariant)
          (sym (no_cause_more c.args.answers.now c.loop-number.number _ _ c.loop-number-test.true w.in-Ok.is))
      | in-Err+in_ok-push-in-Err w ↦ rw (w.unbounds-is, w.in_ok-push-in-Err.ensures.items, c.loop-number.invariant)
          (sym (cause_more c.args.answers.now c.loop-number.number _ _ c.loop-number-test.true w.in-Err.is))
    ]
