use Rattle.migrate.specs.Finishing.{core_counts_of}
use Rattle.migrate.proofs.CoreLists.{AreOf}
use Rattle.migrate.proofs.finishing.core_counts.Given as goal

abbrev pub invariant-loop-core : goal.invariant-loop-core
invariant-loop-core l = AreOf (core_counts_of l.setup l.owners l.windows) l.shelves l.core l.cores.items
