use Rattle.modelnet.proofs.Runnable.{plan_is_runnable}
use Rattle.modelnet.proofs.plan_inputs.plan_inputs.Goals as goal

pub returns-in-Some-clause-runnable : goal.returns-in-Some-clause-runnable
returns-in-Some-clause-runnable c =
    plan_is_runnable _ _ _ _ c.plan.result c.link_type-kept.ensures.within c.plan.ensures.planned

pub returns-clause-runnable : goal.returns-clause-runnable
returns-clause-runnable c =
    plan_is_runnable _ _ _ _ c.plan-in-None.result c.link_type-kept.ensures.within c.plan-in-None.ensures.planned
