use Rattle.std.proofs.Common.{◌≡◌, ◌≤◌, length, vec_capacity}
use Rattle.world.proofs.Finishes.{IsFinishing}
use Rattle.world.proofs.whole.World.finish.Given as goal

abbrev pub invariant-loop-core : goal.invariant-loop-core
invariant-loop-core l = record {
  finishing : IsFinishing l.fn.self l.initial.tally (length l.yielded) l.results.items l.tally;
  room : length l.fn.self.cores ≤ vec_capacity l.results;
}
