use Rattle.std.proofs.Common.{◌≡◌, ◌≤◌, ◌==◌, length, take, ap, ◌∙◌, arith}
use Rattle.std.proofs.lemmas.List.{length-take-le}
use Rattle.std.proofs.lemmas.List.Sums.{length-filter, count_by-le-length}
use Rattle.journal.specs.declared.setup.PacketPlan.{PacketPlan}
use Rattle.journal.specs.SetupView.{SetupView}
use Rattle.journal.proofs.FewVisits.{few_packets}
use Rattle.core_loop.proofs.entering.count_entrants.Goals as goal

pub overflow_add-count : goal.overflow_add-count
overflow_add-count c =
    let S = c.args.setup.now in
    let packets = c.deref-plan-items.ensures.value ∙ ap (λ (s : SetupView). s.packets) (c.behind-setup.view_is ∙ c.parts.ensures.same) in
    let few = few_packets S c.parts.ensures.kept in
    let long = ap length packets in
    let within : c.loop-plan.plan-index ≤ length S.packets = omega (arith, c.loop-plan-test.true, long) in
    let taken : length (take c.loop-plan.plan-index S.packets) ≡ c.loop-plan.plan-index = length-take-le c.loop-plan.plan-index S.packets within in
    omega (
      arith,
      few,
      within,
      taken,
      c.loop-plan.invariant,
      length-filter (λ (p : PacketPlan). p.core == c.args.core) (take c.loop-plan.plan-index S.packets),
      count_by-le-length (λ (p : PacketPlan). p.core == c.args.core) (take c.loop-plan.plan-index S.packets),
    )
