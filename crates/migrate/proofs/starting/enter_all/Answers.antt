use Rattle.std.proofs.Common.{◌≡◌, ℕ, length, Some, slice_get, slice_index_or, ap, ◌∙◌, subst, arith}
use Rattle.journal.specs.declared.setup.PacketPlan.{PacketPlan}
use Rattle.journal.specs.SetupView.{SetupView}
use Rattle.journal.proofs.Packets.{among-get, packet-known}
use Rattle.migrate.specs.Starting.{PacketsEntered}
use Rattle.migrate.proofs.Started.{no_plan, plan-at, enter-alone, enter-held, enters-more, entered-none}
use Rattle.migrate.proofs.starting.enter_all.Goals as goal
use Rattle.migrate.proofs.starting.enter_all.Goals.{In-loop-plan}

pub loop-plan-init : goal.loop-plan-init
loop-plan-init c = entered-none c.args.setup.now c.args.shelves.now.items c.requires.empty

-- the packet that enters is the setup's at the index
abbrev plan : In-loop-plan → PacketPlan
plan c = slice_index_or c.deref-plan-items.result.now c.loop-plan.plan-index no_plan

here : (c : In-loop-plan) → slice_get c.args.setup.now.packets c.loop-plan.plan-index ≡ Some (plan c)
here c =
    let packets = c.deref-plan-items.ensures.value ∙ ap (λ (s : SetupView). s.packets) (c.behind-setup.view_is ∙ c.parts.ensures.same) in
    plan-at c.args.setup.now c.deref-plan-items.result.now c.loop-plan.plan-index packets c.loop-plan-test.true

pub enter-requires-clause-among : goal.enter-requires-clause-among
enter-requires-clause-among c =
    let at = (goal.at.enter-requires-clause-among c).In-loop-plan in
    among-get c.args.setup.now.packets c.loop-plan.plan-index (plan at) (here at)

pub enter-requires-clause-known : goal.enter-requires-clause-known
enter-requires-clause-known c =
    let at = (goal.at.enter-requires-clause-known c).In-loop-plan in
    packet-known c.args.setup.now c.parts.ensures.kept (plan at)
    (among-get c.args.setup.now.packets c.loop-plan.plan-index (plan at) (here at))

pub enter-requires-clause-one_a_core : goal.enter-requires-clause-one_a_core
enter-requires-clause-one_a_core c = c.loop-plan.invariant.as_many ∙ c.requires.one_a_core

pub enter-requires-clause-alone : goal.enter-requires-clause-alone
enter-requires-clause-alone c =
    enter-alone c.parts.ensures.kept c.loop-plan.plan-index (here (goal.at.enter-requires-clause-alone c).In-loop-plan)
    c.loop-plan.invariant

pub enter-requires-clause-held : goal.enter-requires-clause-held
enter-requires-clause-held c =
    enter-held c.parts.ensures.kept c.loop-plan.plan-index (here (goal.at.enter-requires-clause-held c).In-loop-plan)
    c.loop-plan.invariant c.requires.stored.0 c.requires.stored.1

pub loop-plan-preserved : goal.loop-plan-preserved
loop-plan-preserved c =
    enters-more c.parts.ensures.kept c.loop-plan.plan-index (here (goal.at.loop-plan-preserved c).In-loop-plan) c.loop-plan.invariant
    c.in_ok-enter.ensures

pub returns : goal.returns
returns c =
    let packets = c.deref-plan-items.ensures.value ∙ ap (λ (s : SetupView). s.packets) (c.behind-setup.view_is ∙ c.parts.ensures.same) in
    let long = ap length packets in
    let l = c.loop-plan.auto.plan-index-end in
    let done : c.loop-plan.plan-index ≡ length c.args.setup.now.packets = omega (arith, long, l, c.loop-plan-test.false) in
    subst (λ (n : ℕ). PacketsEntered c.args.setup.now n c.args.shelves.now.items c.loop-plan.shelves.items) done c.loop-plan.invariant
