use Rattle.std.proofs.Common.{◌-◌, length}
use Rattle.migrate.specs.UnderWay.{DoStand, HaveMoved, SameButPlaces}
use Rattle.migrate.specs.Standing.{StillStand}
use Rattle.migrate.proofs.moves.move_due.Given as goal

abbrev pub invariant-moves : goal.invariant-moves
invariant-moves l = record {
  moved : HaveMoved l.initial.shelves.setup l.moves l.next l.window l.shelves;
  same : SameButPlaces l.initial.shelves l.shelves;
  stands : DoStand l.shelves;
  still : StillStand l.initial.shelves l.shelves;
}

abbrev pub decreases-moves : goal.decreases-moves
decreases-moves l = length l.moves - l.next
