use Rattle.migrate.proofs.FirstDue.{FirstBelow}
use Rattle.migrate.proofs.window.first_of.Given as goal

abbrev pub invariant-loop-core : goal.invariant-loop-core
invariant-loop-core l = FirstBelow l.shelves l.core l.head
