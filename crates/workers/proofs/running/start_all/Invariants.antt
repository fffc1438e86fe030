use Rattle.std.proofs.Common.{◌≤◌, length, vec_capacity}
use Rattle.std.specs.List.{AllZip}
use Rattle.workers.specs.Places.{IsPlaceOf}
use Rattle.workers.proofs.running.start_all.Given as goal

abbrev pub invariant-loop-station : goal.invariant-loop-station
invariant-loop-station g l = record {
  places : AllZip IsPlaceOf l.yielded l.places.items;
  room : length l.fn.all.items ≤ vec_capacity l.places;
}
