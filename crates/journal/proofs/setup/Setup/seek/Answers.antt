use Rattle.std.proofs.Common.{◌≡◌, ltb, rules, sym, ap, ◌∙◌, subst, arith}
use Rattle.std.proofs.lemmas.List.Sorted.{IsPartitionPoint-from_clause, IsPartitionedBy-ltb}
use Rattle.std.specs.List.Sorted.{IsNonDecreasingBy}
use Rattle.journal.specs.declared.setup.PacketPlan.{PacketPlan}
use Rattle.journal.specs.SetupView.{SetupView}
use Rattle.journal.proofs.Numbers.{numbers-order, found_at, absent_at}
use Rattle.journal.proofs.setup.Setup.seek.Goals as goal
use Rattle.journal.proofs.setup.Setup.seek.Goals.{else-index-packets-via-then-index-packets+else-packets-index, else-index-packets-via-else-index-packets}

pub returns-then-packets-index : goal.returns-then-packets-index
returns-then-packets-index c =
    let same : c.as_slice-packets.result.now ≡ c.args.self.now.packets =
    c.as_slice-packets.ensures.value ∙ ap (λ (s : SetupView). s.packets) (c.behind-self.view_is ∙ c.parts.ensures.same) in
    found_at c.args.self.now c.parts.ensures.kept c.as_slice-packets.result.now c.partition_point-index.result c.args.number _ same
    c.if-index-packets.true c.if-packets-index.true

pub returns-else-index-packets : goal.returns-else-index-packets
returns-else-index-packets c =
    let S = c.args.self.now in
    let is = c.parts.ensures.kept in
    let same : c.as_slice-packets.result.now ≡ c.args.self.now.packets =
    c.as_slice-packets.ensures.value ∙ ap (λ (s : SetupView). s.packets) (c.behind-self.view_is ∙ c.parts.ensures.same) in
    let order : IsNonDecreasingBy (λ (p : PacketPlan). p.number) c.as_slice-packets.result.now =
    subst (IsNonDecreasingBy (λ (p : PacketPlan). p.number)) (sym same) (numbers-order S is) in
    let point =
    IsPartitionPoint-from_clause (λ (p : PacketPlan). ltb p.number c.args.number) _ _ c.partition_point-index.ensures.partitioned
    (IsPartitionedBy-ltb (λ (p : PacketPlan). p.number) _ c.args.number order) (λ a r q k. search rules) in
    absent_at S is c.as_slice-packets.result.now c.partition_point-index.result c.args.number
    (record { entry_tick = 0; number = 0; len = 0; route = 0; core = 0 }) same point
    (elim c.else-index-packets.branch [
      | else-index-packets-via-then-index-packets+else-packets-index w ↦ (λ within e. w.if-packets-index.false e)
      | else-index-packets-via-else-index-packets w ↦ (λ within e. absurd (omega arith))
    ])
