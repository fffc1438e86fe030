use Rattle.mn_base.specs.declared.limits.TheConstants.{PIPES_MAX}
use Rattle.parcel.proofs.PipeSets.{none_marked}
use Rattle.parcel.proofs.pipe_set.PipeSet.empty.Goals as goal

pub returns : goal.returns
returns c = none_marked PIPES_MAX
