use Rattle.core_loop.proofs.Entered.{IsEntering}
use Rattle.core_loop.proofs.entering.enter_all.Given as goal

abbrev pub invariant-loop-plan : goal.invariant-loop-plan
invariant-loop-plan l = IsEntering l.setup l.number l.setup.packets l.plan-index l.initial.work l.work l.initial.entrants l.entrants
