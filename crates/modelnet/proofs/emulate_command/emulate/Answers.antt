use Rattle.std.proofs.Common.{◌≡◌, ◌∙◌, Err, refl, ap, subst, rules}
use Rattle.pcap_io.specs.Writing.{pcap_text}
use Rattle.mn_words.specs.Order.{RunView}
use Rattle.modelnet.specs.Commands.{status_of}
use Rattle.modelnet.specs.PlanSteps.{HasPlan}
use Rattle.modelnet.specs.TheCommands.{run_planning, run_command}
use Rattle.modelnet.proofs.RunEnds.{plan_without_memory, renamed, run_stops, run_ends}
use Rattle.modelnet.proofs.Tallied.{counted_after, stays_after, run_is_counted, run_may_be_counted}
use Rattle.modelnet.proofs.emulate_command.emulate.Goals as goal

pub returns-in_err-planned-clause-answered : goal.returns-in_err-planned-clause-answered
returns-in_err-planned-clause-answered g c =
    let is : c.from_residual.result ≡ Err c.in_err-planned.field-0.0 = search rules in
    let stops = run_stops c.args.limits.now c.args.order.now c.of_run.result (g.H.Host.part c.args.host.now)
    (g.H.Host.part c.read_plan.new.host) c.in_err-planned.field-0.0 c.of_run.ensures c.in_err-planned.ensures.stops in
    rw is stops.answered

pub returns-in_err-planned-clause-tally : goal.returns-in_err-planned-clause-tally
returns-in_err-planned-clause-tally g c =
    let is : c.from_residual.result ≡ Err c.in_err-planned.field-0.0 = search rules in
    let stops = run_stops c.args.limits.now c.args.order.now c.of_run.result (g.H.Host.part c.args.host.now)
    (g.H.Host.part c.read_plan.new.host) c.in_err-planned.field-0.0 c.of_run.ensures c.in_err-planned.ensures.stops in
    rw is (stays_after (run_command c.args.limits.now c.args.order.now) (g.H.Host.part c.args.host.now)
    (g.H.Host.part c.read_plan.new.host) c.args.tally.now c.in_err-planned.field-0.0 stops.early)

pub returns-in-Err-clause-answered : goal.returns-in-Err-clause-answered
returns-in-Err-clause-answered g c =
    let old = g.H.Host.part c.args.host.now in
    let new = g.H.Host.part c.read_plan.new.host in
    let planned = c.in_ok-planned.planned in
    plan_without_memory c.args.limits.now (run_planning c.args.order.now) (run_command c.args.limits.now c.args.order.now) old new planned refl
    (subst (λ a. HasPlan c.args.limits.now a old new planned) c.of_run.ensures c.in_ok-planned.ensures.plan)

pub returns-in-Err-clause-tally : goal.returns-in-Err-clause-tally
returns-in-Err-clause-tally g c =
    let old = g.H.Host.part c.args.host.now in
    let new = g.H.Host.part c.read_plan.new.host in
    let planned = c.in_ok-planned.planned in
    run_may_be_counted c.args.limits.now c.args.order.now old new planned c.args.tally.now c.emulated.new.tally
    (subst (λ a. HasPlan c.args.limits.now a old new planned) c.of_run.ensures c.in_ok-planned.ensures.plan) c.in-Err.ensures.may_count

pub returns-clause-answered : goal.returns-clause-answered
returns-clause-answered g c =
    let old = g.H.Host.part c.args.host.now in
    let mid = g.H.Host.part c.read_plan.new.host in
    let new = g.H.Host.part c.write_texts.new.host in
    let planned = c.in_ok-planned.planned in
    let order = c.args.order.now in
    let texts = c.in-Ok.texts in
    run_ends c.args.limits.now order (pcap_text texts.out) texts.report texts.screen old mid new (status_of c.write_texts.result)
    (record {
      planned = planned;
      plan = subst (λ a. HasPlan c.args.limits.now a old mid planned) c.of_run.ensures c.in_ok-planned.ensures.plan;
      run = c.in-Ok.ensures.run;
      screens_are = c.in-Ok.ensures.cluster;
    })
    (renamed c.as_str.result.now c.as_str-2.result.now order.out order.report (pcap_text texts.out) texts.report texts.screen mid new
    (status_of c.write_texts.result)
    (c.as_str.ensures.lent ∙ ap (λ (o : RunView). o.out) c.order.view_is)
    (c.as_str-2.ensures.lent ∙ ap (λ (o : RunView). o.report) c.order.view_is) c.write_texts.ensures.answered)

pub returns-clause-tally : goal.returns-clause-tally
returns-clause-tally g c =
    let old = g.H.Host.part c.args.host.now in
    let mid = g.H.Host.part c.read_plan.new.host in
    let new = g.H.Host.part c.write_texts.new.host in
    let planned = c.in_ok-planned.planned in
    counted_after (run_command c.args.limits.now c.args.order.now) old new c.args.tally.now c.emulated.new.tally (status_of c.write_texts.result)
    (run_is_counted c.args.limits.now c.args.order.now old mid new planned c.args.tally.now c.emulated.new.tally
    (subst (λ a. HasPlan c.args.limits.now a old mid planned) c.of_run.ensures c.in_ok-planned.ensures.plan)
    c.in-Ok.ensures.tally c.write_texts.ensures.others)
