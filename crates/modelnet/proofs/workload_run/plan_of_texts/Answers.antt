use Rattle.std.proofs.Common.{None}
use Rattle.modelnet.proofs.Runnable.{is_runnable}
use Rattle.modelnet.proofs.workload_run.plan_of_texts.Goals as goal

pub returns-clause-runnable : goal.returns-clause-runnable
returns-clause-runnable c =
    is_runnable c.in_ok-topology.topology c.in_ok-trace.trace c.args.options.now None c.in_ok-plan.field-0 c.in_ok-plan.ensures.planned
    c.link_type-kept.ensures.within
