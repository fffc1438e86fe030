use Rattle.std.proofs.Common.{◌≡◌, ℕ, ◌<◌, slice_index_or}
use Rattle.std.specs.List.{AllZip}
use Rattle.core_loop.specs.declared.turn.Turn.TheVariants.{Done}
use Rattle.workers.specs.declared.place.Place.{Place}
use Rattle.workers.specs.Places.{StaysPlace, IsDoneHere}
use Rattle.workers.proofs.turning.turn_here.Given as goal

abbrev pub invariant-loop-at : goal.invariant-loop-at
invariant-loop-at l = record {
  stays : AllZip StaysPlace l.initial.places l.places;
  done : l.all ≡ Done → (k : ℕ) (d : Place) → k < l.at → IsDoneHere (slice_index_or l.places k d);
}
