use Rattle.std.proofs.Common.{◌≡◌, ◌+◌, ◌<◌, List, length, slice_index_or, inl, inr, refl, sym, ap, ◌∙◌, subst, arith}
use Rattle.std.proofs.lemmas.List.{get_or_default}
use Rattle.journal.specs.declared.setup.PacketPlan.{PacketPlan}
use Rattle.journal.specs.SetupView.{SetupView}
use Rattle.core_loop.specs.Work.{EntrantsView, WorkView}
use Rattle.journal.proofs.Packets.{packet-known}
use Rattle.core_loop.proofs.Entered.{IsEntering, no_plan, plan-among, entering-can, entering-more}
use Rattle.core_loop.proofs.entering.enter_all.Goals as goal
use Rattle.core_loop.proofs.entering.enter_all.Goals.{then-plan-number+in_ok-enter, else-plan-number}

pub enter-requires-clause-among : goal.enter-requires-clause-among
enter-requires-clause-among c =
    plan-among c.args.setup.now c.deref-plan-items.result.now c.loop-plan.plan-index
    (c.deref-plan-items.ensures.value ∙ ap (λ (s : SetupView). s.packets) (c.behind-setup.view_is ∙ c.parts.ensures.same)) c.loop-plan-test.true

pub enter-requires-clause-known : goal.enter-requires-clause-known
enter-requires-clause-known c =
    packet-known c.args.setup.now c.parts.ensures.kept
    (slice_index_or c.deref-plan-items.result.now c.loop-plan.plan-index no_plan)
    (plan-among c.args.setup.now c.deref-plan-items.result.now c.loop-plan.plan-index
    (c.deref-plan-items.ensures.value ∙ ap (λ (s : SetupView). s.packets) (c.behind-setup.view_is ∙ c.parts.ensures.same)) c.loop-plan-test.true)

pub enter-requires-clause-can : goal.enter-requires-clause-can
enter-requires-clause-can c =
    let items = c.deref-plan-items.result.now in
    let i = c.loop-plan.plan-index in
    let packets = c.deref-plan-items.ensures.value ∙ ap (λ (s : SetupView). s.packets) (c.behind-setup.view_is ∙ c.parts.ensures.same) in
    let plan = slice_index_or items i no_plan in
    entering-can c.loop-plan.invariant (let long = ap length packets in omega (arith, c.loop-plan-test.true, long))
    (get_or_default items i no_plan plan c.loop-plan-test.true ∙ ap (λ (ps : List PacketPlan). slice_index_or ps i plan) packets)
    c.if-plan-number.true

pub loop-plan-preserved : goal.loop-plan-preserved
loop-plan-preserved c =
    let S = c.args.setup.now in
    let core = c.number-number.result in
    let v = c.args.work.now in
    let d = c.args.entrants.now in
    let items = c.deref-plan-items.result.now in
    let i = c.loop-plan.plan-index in
    let h = c.loop-plan.invariant in
    let packets = c.deref-plan-items.ensures.value ∙ ap (λ (s : SetupView). s.packets) (c.behind-setup.view_is ∙ c.parts.ensures.same) in
    let plan = slice_index_or items i no_plan in
    let within : i < length S.packets = (let long = ap length packets in omega (arith, c.loop-plan-test.true, long)) in
    let is : plan ≡ slice_index_or S.packets i plan =
    get_or_default items i no_plan plan c.loop-plan-test.true ∙ ap (λ (ps : List PacketPlan). slice_index_or ps i plan) packets in
    let among = plan-among S items i packets c.loop-plan-test.true in
    elim c.if-plan-number.branch [
      | then-plan-number+in_ok-enter w ↦
          subst (λ (u : WorkView). IsEntering S core S.packets (i + 1) v u d c.if-plan-number.entrants) (sym w.work-is)
          (subst (λ (f : EntrantsView). IsEntering S core S.packets (i + 1) v w.enter.new.work d f) (sym w.entrants-is)
          (entering-more h within is among (inl (w.if-plan-number.true ∙ sym h.same_number, w.in_ok-enter.ensures))))
      | else-plan-number w ↦
          subst (λ (u : WorkView). IsEntering S core S.packets (i + 1) v u d c.if-plan-number.entrants) (sym w.work-is)
          (subst (λ (f : EntrantsView). IsEntering S core S.packets (i + 1) v c.loop-plan.work d f) (sym w.entrants-is)
          (entering-more h within is among (inr ((λ e. w.if-plan-number.false (e ∙ h.same_number)), refl, refl))))
    ]
