use Rattle.workers.specs.Standing.{GoesOn}
use Rattle.workers.proofs.working.work.Given as goal

abbrev pub invariant-loop-turn : goal.invariant-loop-turn
invariant-loop-turn g l = record {
  can_next : (goal.iterator-loop-turn g).can_next l._turn-iterator;
  is_finite : (goal.iterator-loop-turn g).is_finite l._turn-iterator;
  goes : GoesOn l.initial.station.core l.station.core;
}
