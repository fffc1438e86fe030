use Rattle.std.proofs.Common.{◌≤◌, length, vec_capacity}
use Rattle.std.specs.List.{AllZip}
use Rattle.workers.specs.Places.{ComesHere}
use Rattle.workers.proofs.running.take_back.Given as goal

abbrev pub invariant-loop-place : goal.invariant-loop-place
invariant-loop-place g l = record {
  returned : AllZip ComesHere l.yielded l.returned.items;
  room : length l.fn.places.items ≤ vec_capacity l.returned;
}
