use Rattle.std.proofs.Common.{◌∙◌, ap}
use Rattle.mn_base.specs.Units.{latency_in_ticks}
use Rattle.modelnet.proofs.Chains.{AllZip-more}
use Rattle.modelnet.specs.Chain.{IsPipeOf}
use Rattle.modelnet.proofs.chain_setup.chain_pipes.Goals as goal

pub loop-pipe-preserved : goal.loop-pipe-preserved
loop-pipe-preserved c =
    rw c.in_ok-push.ensures.items (AllZip-more (IsPipeOf c.args.tick_ns) c.args.pipes.now c.loop-pipe.params.items c.loop-pipe.pipe-index
    (record { bps = 0; latency_us = 0; queue = 0; ppm = 0 }) c.new.result c.loop-pipe-test.true c.loop-pipe.invariant
    (record {
      bps = c.new.ensures.bps;
      latency_us = c.new.ensures.latency_us ∙ c.from.ensures;
      latency_ticks = c.new.ensures.latency_ticks ∙ ap (λ us. latency_in_ticks us c.args.tick_ns) c.from.ensures;
      queue = c.new.ensures.queue;
      keep = c.new.ensures.keep ∙ c.keep_of_ppm-keep.ensures.value;
    }))
