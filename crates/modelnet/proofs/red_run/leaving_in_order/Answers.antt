use Rattle.std.proofs.Common.{◌∙◌, List, ap, subst, rules}
use Rattle.std.specs.List.Sorted.{IsPermutation}
use Rattle.std.proofs.lemmas.Fn.{always_returns_same}
use Rattle.journal.specs.SetupView.{SetupView}
use Rattle.journal.specs.declared.setup.PacketPlan.{PacketPlan}
use Rattle.settle.proofs.InOrder.{tick_and_packet}
use Rattle.modelnet.specs.RedRun.{red_leavings}
use Rattle.modelnet.proofs.RedLeavings.{leavings-in_order}
use Rattle.modelnet.proofs.red_run.leaving_in_order.Goals as goal

pub returns-clause-moved : goal.returns-clause-moved
returns-clause-moved c =
    let read = c.parts.view_is ∙ c.parts-parts.ensures.same in
    let packets = c.deref.ensures.value ∙ ap (λ (S : SetupView). S.packets) read in
    let listed = c.in_ok-leaving.ensures
    ∙ ap (λ (ps : List PacketPlan). red_leavings ps c.args.fates.now c.in_ok-bytes.bytes.items) packets
    ∙ ap (λ bs. red_leavings c.args.setup.now.packets c.args.fates.now bs) c.in_ok-bytes.ensures in
    subst (λ xs. IsPermutation xs c.sort_by_key.new.self.items) listed c.sort_by_key.ensures.permutation

pub returns-clause-in_order : goal.returns-clause-in_order
returns-clause-in_order c =
    let read = c.parts.view_is ∙ c.parts-parts.ensures.same in
    let packets = c.deref.ensures.value ∙ ap (λ (S : SetupView). S.packets) read in
    let listed = c.in_ok-leaving.ensures
    ∙ ap (λ (ps : List PacketPlan). red_leavings ps c.args.fates.now c.in_ok-bytes.bytes.items) packets in
    leavings-in_order c.args.setup.now.packets c.args.fates.now c.in_ok-bytes.bytes.items c.sort_by_key.new.self.items
    c.parts-parts.ensures.kept.numbers_rise
    (subst (λ xs. IsPermutation xs c.sort_by_key.new.self.items) listed c.sort_by_key.ensures.permutation)
    (c.in_ok-sort_by_key.ensures.sorted tick_and_packet (always_returns_same _ _ _ (λ a r f k. search rules)))
