use Rattle.std.proofs.Common.{◌∙◌, ap}
use Rattle.mn_base.specs.Units.{latency_in_ticks}
use Rattle.modelnet.proofs.red_setup.base_params.Goals as goal

pub returns : goal.returns
returns c = record {
  bps = c.new.ensures.bps;
  latency_us = c.new.ensures.latency_us ∙ c.from-latency_us.ensures;
  latency_ticks = c.new.ensures.latency_ticks ∙ ap (λ us. latency_in_ticks us c.args.tick_ns) c.from-latency_us.ensures;
  queue = c.new.ensures.queue;
  keep = c.new.ensures.keep ∙ c.keep_of_ppm-keep.ensures.value;
}
