use Rattle.core_loop.specs.Trading.{IsLeastBy}
use Rattle.core_loop.proofs.LeastOfAll.{HasLeast}
use Rattle.core_loop.proofs.one_core.Core.least.Given as goal

abbrev pub invariant-loop-peer : goal.invariant-loop-peer
invariant-loop-peer l = IsLeastBy (HasLeast l.self.peers l.peer-index) l.least
