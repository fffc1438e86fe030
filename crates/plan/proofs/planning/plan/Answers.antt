use Rattle.plan.proofs.FirstFaults.{refuses}
use Rattle.plan.specs.Setups.{given_text}
use Rattle.plan.proofs.planning.plan.Goals as goal

pub returns-clause-only_fault : goal.returns-clause-only_fault
returns-clause-only_fault c =
    λ fault first. refuses c.args.topology.now c.args.options.now (given_text c.args.directory) c.args.trace c.make_plan.result fault
    c.make_plan.ensures.planned c.make_plan.ensures.fault first
