-- What contracts see of the result of a core.
use Rattle.std.specs.Prelude.{List}
use Rattle.parcel.specs.declared.core_result.Settled.{Settled}
use Rattle.parcel.specs.declared.counts.PipeCounts.{PipeCounts}
use Rattle.parcel.specs.declared.counts.CoreCounts.{CoreCounts}

pub record CoreResultView : Type 0 where
  pub settled : List Settled
  pub pipe_counts : List PipeCounts
  pub counts : CoreCounts
