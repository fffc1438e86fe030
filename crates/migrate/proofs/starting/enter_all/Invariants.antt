use Rattle.migrate.specs.Starting.{PacketsEntered}
use Rattle.migrate.proofs.starting.enter_all.Given as goal

abbrev pub invariant-loop-plan : goal.invariant-loop-plan
invariant-loop-plan l = PacketsEntered l.fn.setup l.plan-index l.fn.shelves.items l.shelves.items
