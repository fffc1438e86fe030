-- What a run is asked for, and its ranges.
use Rattle.std.specs.Prelude.{◌≤◌}
use Rattle.mn_base.specs.Ranges.{IsTickLength}
use Rattle.mn_base.specs.declared.limits.TheConstants.{CORES_MAX}
use Rattle.distill.specs.Modes.{IsMode}
use Rattle.plan.specs.declared.options.Options.{Options}

pub record AreOptions (options : Options) : Type 0 where
  pub mode : IsMode options.mode
  pub some_core : 1 ≤ options.cores
  pub few_cores : options.cores ≤ CORES_MAX
  pub tick : IsTickLength options.tick_ns
