use Rattle.std.proofs.Common.{◌≡◌}
use Rattle.workers.specs.Ran.{results_of}
use Rattle.modelnet.proofs.running_threads.only_results.Given as goal

abbrev pub invariant-loop-core : goal.invariant-loop-core
invariant-loop-core l = l.results.items ≡ results_of l.yielded
