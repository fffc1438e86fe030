use Rattle.modelnet.proofs.Chains.{AllZip-more}
use Rattle.modelnet.specs.RedRun.{IsRedPipeOf}
use Rattle.modelnet.proofs.red_setup.red_pipes.Goals as goal

pub loop-pipe-preserved : goal.loop-pipe-preserved
loop-pipe-preserved c =
    rw c.in_ok-push.ensures.items (AllZip-more (IsRedPipeOf c.args.tick_ns) c.args.pipes.now c.loop-pipe.params.items c.loop-pipe.pipe-index
    (record { base = record { bps = 0; latency_us = 0; queue = 0; ppm = 0 }; shift = 0; min = 0; max = 0; early = 0 })
    c.red_params.result c.loop-pipe-test.true c.loop-pipe.invariant c.red_params.ensures)
