-- The fields of a `RedPipe` as what contracts see of it.
use Rattle.std.specs.Prelude.{◌*◌, ◌≤◌}
use Rattle.mn_base.specs.declared.limits.TheConstants.{QUEUE_MAX}
use Rattle.pipe.specs.PipeView.{IsInBounds}
use Rattle.red_queue.specs.declared.averages.TheConstants.{ONE_PACKET}
use Rattle.red_queue.specs.declared.queue.RedPipe.TheInside.{Inside}
use Rattle.red_queue.specs.Ranges.{IsRedParams}
use Rattle.red_queue.specs.QueueView.{RedPipeView, plain_view}

abbrev pub red_view_of : Inside → RedPipeView
red_view_of p = record {
  params = p.params;
  tick_ns = p.tick_ns;
  last_tick = p.last_tick;
  last_finish = p.last_finish;
  kept = p.kept.items;
  average = p.average;
}

-- true of each such pipe: its parameters are in their ranges, what it keeps is in bounds, and so is its average
pub record IsRedSound (p : Inside) : Type 0 where
  pub ranges : IsRedParams p.params
  pub bounds : IsInBounds (plain_view (red_view_of p) 0)
  pub average : p.average ≤ QUEUE_MAX * ONE_PACKET
