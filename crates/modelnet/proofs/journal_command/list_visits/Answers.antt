use Rattle.std.proofs.Common.{◌≡◌, ◌∙◌, Err, refl, ap, subst, rules}
use Rattle.journal.specs.Journal.{journal_of}
use Rattle.journal_check.specs.Texts.{journal_out}
use Rattle.plan.specs.PlannedView.{PlannedView}
use Rattle.mn_words.specs.Order.{JournalView}
use Rattle.modelnet.specs.Journals.{journal_planning}
use Rattle.modelnet.specs.Planning.{planning_command}
use Rattle.modelnet.specs.PlanSteps.{HasPlan}
use Rattle.modelnet.specs.Progress.{HasStopped}
use Rattle.modelnet.specs.TheCommands.{journal_command}
use Rattle.modelnet.proofs.JournalEnds.{journal_stops, journal_ends}
use Rattle.modelnet.proofs.RunEnds.{plan_without_memory}
use Rattle.modelnet.proofs.journal_command.list_visits.Goals as goal

pub returns-in_err-planned : goal.returns-in_err-planned
returns-in_err-planned g c =
    let is : c.from_residual.result ≡ Err c.in_err-planned.field-0.0 = search rules in
    let limits = c.args.limits.now in
    let old = g.H.Host.part c.args.host.now in
    let new = g.H.Host.part c.read_plan.new.host in
    let status = c.in_err-planned.field-0.0 in
    rw is (journal_stops limits c.args.order.now old new status
    (subst (λ a. HasStopped (planning_command limits a) old new status) c.of_journal.ensures c.in_err-planned.ensures.stops))

pub returns-in_default : goal.returns-in_default
returns-in_default g c =
    let limits = c.args.limits.now in
    let old = g.H.Host.part c.args.host.now in
    let new = g.H.Host.part c.read_plan.new.host in
    let planned = c.in_ok-planned.planned in
    plan_without_memory limits (journal_planning c.args.order.now) (journal_command limits c.args.order.now) old new planned refl
    (subst (λ a. HasPlan limits a old new planned) c.of_journal.ensures c.in_ok-planned.ensures.plan)

pub returns : goal.returns
returns g c =
    let limits = c.args.limits.now in
    let old = g.H.Host.part c.args.host.now in
    let mid = g.H.Host.part c.read_plan.new.host in
    let planned = c.in_ok-planned.planned in
    journal_ends limits c.args.order.now (g.H.Host.part c.write_output.new.host) c.write_output.result
    (subst (λ a. HasPlan limits a old mid planned) c.of_journal.ensures c.in_ok-planned.ensures.plan)
    (c.in-Ok.ensures ∙ ap (λ (p : PlannedView). journal_out (journal_of p.setup)) c.planned.view_is) c.as_slice.ensures.lent
    (c.as_str.ensures.lent ∙ ap (λ (o : JournalView). o.out) c.order.view_is) c.write_output.ensures.own c.write_output.ensures.others
