use Rattle.std.proofs.Common.{◌≡◌, ◌∙◌, Err, ap, subst, rules}
use Rattle.pcap_io.specs.Writing.{pcap_text}
use Rattle.mn_words.specs.Order.{MigrateView}
use Rattle.modelnet.specs.Commands.{status_of}
use Rattle.modelnet.specs.Planning.{planning_command}
use Rattle.modelnet.specs.PlanSteps.{HasPlan}
use Rattle.modelnet.specs.Progress.{HasStopped}
use Rattle.modelnet.proofs.MigrateEnds.{migrate_stops, plan_cores, moves_refused, moved_ends}
use Rattle.modelnet.proofs.RunEnds.{renamed}
use Rattle.modelnet.proofs.migrate_command.migrate.Goals as goal

pub returns-in_err-planned : goal.returns-in_err-planned
returns-in_err-planned g c =
    let is : c.from_residual.result ≡ Err c.in_err-planned.field-0.0 = search rules in
    let limits = c.args.limits.now in
    let old = g.H.Host.part c.args.host.now in
    let new = g.H.Host.part c.read_plan.new.host in
    let status = c.in_err-planned.field-0.0 in
    rw is (migrate_stops limits c.args.order.now old new status
    (subst (λ a. HasStopped (planning_command limits a) old new status) c.of_migrate.ensures c.in_err-planned.ensures.stops))

pub moved_texts-requires-clause-cores : goal.moved_texts-requires-clause-cores
moved_texts-requires-clause-cores g c =
    let limits = c.args.limits.now in
    let old = g.H.Host.part c.args.host.now in
    let new = g.H.Host.part c.read_plan.new.host in
    let planned = c.in_ok-planned.planned in
    plan_cores limits c.args.order.now planned old new
    (subst (λ a. HasPlan limits a old new planned) c.of_migrate.ensures c.in_ok-planned.ensures.plan)

pub returns-in_err-texts : goal.returns-in_err-texts
returns-in_err-texts g c =
    let is : c.from_residual-in_err-texts.result ≡ Err c.in_err-texts.field-0.0 = search rules in
    let limits = c.args.limits.now in
    let old = g.H.Host.part c.args.host.now in
    let new = g.H.Host.part c.read_plan.new.host in
    let planned = c.in_ok-planned.planned in
    rw is (moves_refused limits c.args.order.now planned old new c.in_err-texts.field-0.0
    (subst (λ a. HasPlan limits a old new planned) c.of_migrate.ensures c.in_ok-planned.ensures.plan) c.in_err-texts.ensures.refusal)

pub returns : goal.returns
returns g c =
    let limits = c.args.limits.now in
    let order = c.args.order.now in
    let old = g.H.Host.part c.args.host.now in
    let mid = g.H.Host.part c.read_plan.new.host in
    let new = g.H.Host.part c.write_texts.new.host in
    let planned = c.in_ok-planned.planned in
    let texts = c.in_ok-texts.texts in
    let status = status_of c.write_texts.result in
    moved_ends limits order planned (pcap_text texts.out) texts.report texts.screen old mid new status
    (subst (λ a. HasPlan limits a old mid planned) c.of_migrate.ensures c.in_ok-planned.ensures.plan) c.in_ok-texts.ensures.run
    (renamed c.as_str.result.now c.as_str-2.result.now order.out order.report (pcap_text texts.out) texts.report texts.screen mid new status
    (c.as_str.ensures.lent ∙ ap (λ (o : MigrateView). o.out) c.order.view_is)
    (c.as_str-2.ensures.lent ∙ ap (λ (o : MigrateView). o.report) c.order.view_is) c.write_texts.ensures.answered)
