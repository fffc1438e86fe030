use Rattle.std.proofs.Common.{◌≡◌, take}
use Rattle.std.specs.List.{flat_map}
use Rattle.parcel.specs.CoreResultView.{CoreResultView}
use Rattle.settle.proofs.merging.all_pipe_counts.Given as goal

abbrev pub invariant-loop-core : goal.invariant-loop-core
invariant-loop-core l = l.all.items ≡ flat_map (λ (r : CoreResultView). r.pipe_counts) (take l.core-index l.results)
