-- Counts that have room for one visit more.
use Rattle.std.specs.Prelude.{◌+◌, ◌^◌, ◌<◌}
use Rattle.parcel.specs.declared.counts.PipeCounts.{PipeCounts}

-- one more visit can be counted
pub record HasRoom (c : PipeCounts) : Type 0 where
  pub passed : c.passed + 1 < 2 ^ 64
  pub lost : c.lost + 1 < 2 ^ 64
  pub full : c.full + 1 < 2 ^ 64
