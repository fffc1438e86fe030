use Rattle.std.proofs.Common.{map}
use Rattle.journal.specs.PipeChanges.{AreChangesOf}
use Rattle.journal.proofs.PipeChanges.{front_of}
use Rattle.journal.proofs.setup_pipe.changes_by_pipe.Given as goal

abbrev pub invariant-loop-change : goal.invariant-loop-change
invariant-loop-change l = AreChangesOf (front_of l.fn.setup l.change-index) (map (λ list. list.items) l.lists.items)
