use Rattle.std.proofs.Common.{◌≡◌, length}
use Rattle.workers.proofs.tests.bytes_of.Given as goal

abbrev pub invariant-loop-plan : goal.invariant-loop-plan
invariant-loop-plan l = length l.bytes.items ≡ l.plan-index
