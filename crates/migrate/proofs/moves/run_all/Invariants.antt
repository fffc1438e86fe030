use Rattle.std.proofs.Common.{◌-◌, ◌≤◌, length}
use Rattle.journal.specs.Journal.{journal_of}
use Rattle.migrate.specs.UnderWay.{DoStand, HasCome, HaveMoved}
use Rattle.migrate.specs.Standing.{StillStand}
use Rattle.migrate.proofs.moves.run_all.Given as goal

abbrev pub invariant-windows : goal.invariant-windows
invariant-windows l = record {
  come : HasCome l.initial.shelves.setup l.moves l.windows l.shelves;
  moved : HaveMoved l.initial.shelves.setup l.moves l.next l.windows l.shelves;
  stands : DoStand l.shelves;
  still : StillStand l.initial.shelves l.shelves;
  few : l.windows ≤ length (journal_of l.initial.shelves.setup);
}

abbrev pub decreases-windows : goal.decreases-windows
decreases-windows l = length (journal_of l.initial.shelves.setup) - l.windows
