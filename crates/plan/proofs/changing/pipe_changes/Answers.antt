use Rattle.std.proofs.Common.{get_or, ap, refl, ◌∙◌}
use Rattle.mn_base.specs.Units.{latency_in_ticks}
use Rattle.changes.specs.declared.split.Change.{Change}
use Rattle.plan.specs.Setups.{IsChangeTo}
use Rattle.plan.proofs.LoopSteps.{AllZip-next}
use Rattle.plan.proofs.changing.pipe_changes.Goals as goal

pub loop-change-preserved : goal.loop-change-preserved
loop-change-preserved c =
    let d : Change = record { tick = 0; pipe = 0; bps = 0; latency_us = 0; queue = 0; ppm = 0 } in
    let said : Change = get_or c.args.changes.now c.loop-change.change-index d in
    rw c.in_ok-push.ensures.items
    (AllZip-next (IsChangeTo c.args.tick_ns) c.args.changes.now c.loop-change.made.items c.loop-change.change-index d
    (record { tick = said.tick; pipe = said.pipe; params = c.new.result }) c.loop-change-test.true c.loop-change.invariant
    (record {
      tick = refl;
      pipe = refl;
      params = record {
        bps = c.new.ensures.bps;
        latency_us = c.new.ensures.latency_us ∙ c.from-latency_us.ensures;
        latency_ticks = c.new.ensures.latency_ticks ∙ ap (λ us. latency_in_ticks us c.args.tick_ns) c.from-latency_us.ensures;
        queue = c.new.ensures.queue;
        keep = c.new.ensures.keep ∙ c.keep_of_ppm-keep.ensures.value;
      };
    }))
