use Rattle.std.proofs.Common.{◌≡◌, Err, ap, subst, rules}
use Rattle.mn_base.specs.Refused.{IfFault}
use Rattle.plan.specs.Faults.{PlanFirst}
use Rattle.plan.specs.Setups.{IsPlan}
use Rattle.modelnet.specs.Planning.{PlanningView}
use Rattle.modelnet.specs.Statuses.{plan_refusal}
use Rattle.modelnet.proofs.PlanReads.{reading_stops, plan_refused, has_plan}
use Rattle.modelnet.proofs.plan_inputs.read_plan.Goals as goal

pub returns-in_err-inputs-clause-stops : goal.returns-in_err-inputs-clause-stops
returns-in_err-inputs-clause-stops g c =
    let is : c.from_residual.result ≡ Err c.in_err-inputs.field-0.0 = search rules in
    rw is (reading_stops c.args.limits.now c.args.asked.now (g.H.Host.part c.args.host.now) (g.H.Host.part c.read_inputs.new.host)
    c.in_err-inputs.field-0.0 c.in_err-inputs.ensures.stops)

pub returns-in_err-planned-clause-stops : goal.returns-in_err-planned-clause-stops
returns-in_err-planned-clause-stops g c =
    let is : c.from_residual-in_err-planned.result ≡ Err (plan_refusal c.in_err-planned.field-0.0) = search rules in
    let inputs = c.in_ok-inputs.inputs in
    let options = ap (λ (p : PlanningView). p.options) c.asked.view_is in
    rw is (plan_refused c.args.limits.now c.args.asked.now inputs.topology inputs.trace inputs.directory
    (g.H.Host.part c.args.host.now) (g.H.Host.part c.read_inputs.new.host) c.in_err-planned.field-0.0 c.in_ok-inputs.ensures.read
    (subst (λ o. IfFault c.in_err-planned.field-0.0 (PlanFirst inputs.topology o inputs.directory)) options c.in_err-planned.ensures.fault))

pub returns-clause-plan : goal.returns-clause-plan
returns-clause-plan g c =
    let inputs = c.in_ok-inputs.inputs in
    let options = ap (λ (p : PlanningView). p.options) c.asked.view_is in
    has_plan c.args.limits.now c.args.asked.now inputs.topology inputs.trace inputs.directory c.in_ok-planned.planned
    (g.H.Host.part c.args.host.now) (g.H.Host.part c.read_inputs.new.host) c.in_ok-inputs.ensures.read
    (subst (λ o. IsPlan inputs.topology inputs.trace o inputs.directory c.in_ok-planned.planned) options c.in_ok-planned.ensures.planned)
