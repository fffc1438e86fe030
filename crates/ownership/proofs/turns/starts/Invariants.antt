use Rattle.ownership.specs.Turning.{HaveStarted}
use Rattle.ownership.proofs.turns.starts.Given as goal

-- the cores so far have started
abbrev pub invariant-loop-core : goal.invariant-loop-core
invariant-loop-core l = HaveStarted l.distilled l.cores l.core l.reaches.items
