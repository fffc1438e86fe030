use Rattle.std.proofs.Common.{sym, ◌∙◌, arith}
use Rattle.pipe.proofs.Params.{last_params-reached, last_params-in_force}
use Rattle.pipe.proofs.in_force.in_force_at.Goals as goal

pub loop-now-preserved : goal.loop-now-preserved
loop-now-preserved c = record {
  within = omega arith;
  ahead = λ later late.
      last_params-reached later c.loop-now.now.params c.args.changes.now c.loop-now.now.reached
      c.index-changes-now.result c.index-changes-now-in-loop-now.result c.loop-now-test.true (omega arith)
      ∙ c.loop-now.invariant.ahead later late;
}

pub returns-else-changes-now-clause-params : goal.returns-else-changes-now-clause-params
returns-else-changes-now-clause-params c =
    sym (c.loop-now.invariant.ahead c.args.tick (omega arith))
    ∙ last_params-in_force c.args.tick c.loop-now.now.params c.args.changes.now c.loop-now.now.reached
    c.index-changes-now.result c.requires.rising (λ within. c.if-changes-now.false)

pub returns-after-loop-now-clause-params : goal.returns-after-loop-now-clause-params
returns-after-loop-now-clause-params c =
    sym (c.loop-now.invariant.ahead c.args.tick (omega arith))
    ∙ last_params-in_force c.args.tick c.loop-now.now.params c.args.changes.now c.loop-now.now.reached
    (c.args.tick, c.loop-now.now.params) c.requires.rising (λ within. absurd (omega arith))
