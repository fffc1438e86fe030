use Rattle.std.proofs.Common.{◌-◌, length}
use Rattle.journal.specs.Journal.{journal_of}
use Rattle.core_loop.specs.Work.{Runs, IsEnd, StaysAtWork}
use Rattle.core_loop.proofs.work.Work.run.Given as goal

abbrev pub invariant-loop : goal.invariant-loop
invariant-loop l = record { runs : Runs l.self; ends : IsEnd l.self l.end; stays : StaysAtWork l.fn.self l.self }

abbrev pub decreases-loop : goal.decreases-loop
decreases-loop l = length (journal_of l.self.setup) - l.self.counts.visits
