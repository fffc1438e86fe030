use Rattle.world.proofs.Rounds.{RoundSoFar}
use Rattle.world.proofs.whole.World.round.Given as goal

abbrev pub invariant-loop-core : goal.invariant-loop-core
invariant-loop-core l = RoundSoFar l.initial.self l.self l.core l.all_done
