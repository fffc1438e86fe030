use Rattle.std.specs.List.{AllZip}
use Rattle.workers.specs.Places.{StaysPlace}
use Rattle.workers.proofs.turning.drive.Given as goal

abbrev pub invariant-loop-round : goal.invariant-loop-round
invariant-loop-round g l = record {
  can_next : (goal.iterator-loop-round g).can_next l._round-iterator;
  is_finite : (goal.iterator-loop-round g).is_finite l._round-iterator;
  stays : AllZip StaysPlace l.initial.places l.places;
}
