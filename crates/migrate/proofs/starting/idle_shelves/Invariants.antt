use Rattle.std.proofs.Common.{◌≡◌, map}
use Rattle.migrate.specs.Running.{idle_shelf}
use Rattle.migrate.proofs.starting.idle_shelves.Given as goal

abbrev pub invariant-loop-store : goal.invariant-loop-store
invariant-loop-store l = l.shelves.items ≡ map idle_shelf l.yielded
