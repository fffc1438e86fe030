use Rattle.std.proofs.Common.{rules}
use Rattle.mn_base.specs.Fields.{field_of}
use Rattle.changes.proofs.Numbers.{change_is_read}
use Rattle.changes.proofs.lines.numbers_of.Goals as goal

pub returns : goal.returns
unfolding field_of
returns c = record {
  value =
      change_is_read c.args.line.now
      (record {
        tick = c.in_ok-tick.tick;
        pipe = c.in_ok-pipe.pipe;
        bps = c.in_ok-bps.bps;
        latency_us = c.in_ok-latency_us.latency_us;
        queue = c.in_ok-queue.queue;
        ppm = c.in_ok-ppm.ppm;
      })
      c.is_empty.result c.then_some.result
      (record {
        behind_tick = c.in_ok-tick.rest.now;
        behind_pipe = c.in_ok-pipe.rest.now;
        behind_bps = c.in_ok-bps.rest.now;
        behind_us = c.in_ok-latency_us.rest.now;
        behind_queue = c.in_ok-queue.rest.now;
        behind_ppm = c.in_ok-ppm.rest.now;
        tick_read = search rules;
        pipe_read = search rules;
        bps_read = search rules;
        us_read = search rules;
        queue_read = search rules;
        ppm_read = search rules;
      })
      c.is_empty.ensures c.then_some.ensures;
}
