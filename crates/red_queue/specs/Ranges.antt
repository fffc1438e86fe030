-- The ranges of the parameters by which a queue drops early.
use Rattle.std.specs.Prelude.{◌<◌, ◌≤◌}
use Rattle.mn_base.specs.declared.limits.TheConstants.{RED_SHIFT_MAX, RED_MIN_MAX, RED_MAX_MAX, RED_EARLY_PPM_MAX}
use Rattle.red_queue.specs.declared.params.RedParams.{RedParams}

pub record IsRedParams (p : RedParams) : Type 0 where
  pub shift : p.shift ≤ RED_SHIFT_MAX
  pub min : p.min ≤ RED_MIN_MAX
  pub order : p.min < p.max
  pub max : p.max ≤ RED_MAX_MAX
  pub early : p.early ≤ RED_EARLY_PPM_MAX
