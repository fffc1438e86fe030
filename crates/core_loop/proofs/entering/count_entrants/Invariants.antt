use Rattle.std.proofs.Common.{◌≡◌, ◌==◌, length, filter, take}
use Rattle.core_loop.proofs.entering.count_entrants.Given as goal

abbrev pub invariant-loop-plan : goal.invariant-loop-plan
invariant-loop-plan l = l.count ≡ length (filter (λ p. p.core == l.core) (take l.plan-index l.setup.packets))
