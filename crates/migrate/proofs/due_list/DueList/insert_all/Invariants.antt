use Rattle.migrate.proofs.Inserting.{IsInserting}
use Rattle.migrate.proofs.due_list.DueList.insert_all.Given as goal

abbrev pub invariant-loop-due : goal.invariant-loop-due
invariant-loop-due l = IsInserting l.fn.all.items l.yielded l.fn.self l.self
