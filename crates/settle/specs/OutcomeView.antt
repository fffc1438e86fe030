-- What contracts see of an outcome: the record of its lists.
use Rattle.std.specs.Prelude.{List}
use Rattle.parcel.specs.declared.counts.PipeCounts.{PipeCounts}
use Rattle.parcel.specs.declared.counts.CoreCounts.{CoreCounts}
use Rattle.settle.specs.declared.outcome.Leaving.{Leaving}
use Rattle.settle.specs.declared.outcome.DropLine.{DropLine}

pub record OutcomeView : Type 0 where
  pub leaving : List Leaving
  pub dropped : List DropLine
  pub pipe_counts : List PipeCounts
  pub cores : List CoreCounts
