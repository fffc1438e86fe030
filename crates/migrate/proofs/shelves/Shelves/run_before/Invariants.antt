use Rattle.std.proofs.Common.{◌-◌, length}
use Rattle.journal.specs.Journal.{journal_of}
use Rattle.migrate.specs.Running.{StaysAtRun, HasRunBefore}
use Rattle.migrate.proofs.shelves.Shelves.run_before.Given as goal

abbrev pub invariant-loop : goal.invariant-loop
invariant-loop l = record { run : HasRunBefore l.end l.fn.self l.self; stays : StaysAtRun l.fn.self l.self }

abbrev pub decreases-loop : goal.decreases-loop
decreases-loop l = length (journal_of l.self.setup) - l.self.made
