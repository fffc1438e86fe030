use Rattle.std.proofs.Common.{map, sym, ap, ◌∙◌, subst, arith}
use Rattle.red_queue.specs.Fates.{entry_fate}
use Rattle.red_queue.specs.Laws.{AllLeaveInTime}
use Rattle.red_queue.specs.SetupView.{RedSetupView}
use Rattle.red_queue.proofs.FatesSoFar.{fates-nil, fates-next, fates-whole, leave_in_time}
use Rattle.red_queue.proofs.packet_fates.red_fates.Goals as goal

pub loop-visit-init : goal.loop-visit-init
loop-visit-init c =
    c.in_ok-fates.ensures
    ∙ ap (map entry_fate) (c.deref.ensures.value ∙ ap (λ (s : RedSetupView). s.packets) c.setup.view_is)
    ∙ fates-nil 0 c.args.setup.now.packets

pub loop-visit-preserved : goal.loop-visit-preserved
loop-visit-preserved c =
    fates-next c.args.visits.now c.loop-visit.visit-index _ c.args.setup.now.packets c.loop-visit.fates.items c.keep_fate.new.fates.items
    c.loop-visit-test.true c.loop-visit.invariant c.keep_fate.ensures

pub returns-clause-fates : goal.returns-clause-fates
returns-clause-fates c =
    fates-whole c.args.setup.now c.args.visits.now c.loop-visit.visit-index c.loop-visit.fates.items (omega (arith, c.loop-visit-test.false))
    c.loop-visit.invariant

pub returns-clause-in_time : goal.returns-clause-in_time
returns-clause-in_time c = λ fit.
    subst (AllLeaveInTime c.args.setup.now)
    (sym (fates-whole c.args.setup.now c.args.visits.now c.loop-visit.visit-index c.loop-visit.fates.items
    (omega (arith, c.loop-visit-test.false)) c.loop-visit.invariant))
    (leave_in_time c.args.setup.now c.args.visits.now fit)
