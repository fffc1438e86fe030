use Rattle.std.proofs.Common.{◌∙◌, max, sym, ap}
use Rattle.report.proofs.LastTicks.{last_leaving_tick-more}
use Rattle.report.proofs.summary.last_leaving_tick_of.Goals as goal

pub loop-left-preserved : goal.loop-left-preserved
loop-left-preserved c =
    let left = c.left-item.result in
    c.later-last.ensures ∙ ap (λ tick. max tick left.tick) c.loop-left.invariant
    ∙ sym (last_leaving_tick-more c.args.leaving.now c.loop-left.left-index left c.loop-left-test.true c.left-item.is)
