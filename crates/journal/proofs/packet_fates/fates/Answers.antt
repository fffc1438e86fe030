use Rattle.std.proofs.Common.{arith, subst}
use Rattle.journal.proofs.FatesSoFar.{AreFatesSoFar, so_far-nil, so_far-to_make, so_far-index, so_far-falls, so_far-next, so_far-whole}
use Rattle.journal.proofs.packet_fates.fates.Goals as goal

pub make-requires : goal.make-requires
make-requires c = (c.loop-next.invariant.visits, so_far-to_make c.loop-next.invariant c.in-Some.ensures.first)

pub loop-next-init : goal.loop-next-init
loop-next-init c = so_far-nil c.in_ok-maker.ensures c.in_ok-fates.ensures

pub index_mut-requires : goal.index_mut-requires
index_mut-requires c = omega (arith, so_far-index c.loop-next.invariant c.in-Some.ensures.first)

pub loop-next-smaller : goal.loop-next-smaller
loop-next-smaller c = so_far-falls c.loop-next.invariant c.in-Some.ensures.first c.make.new.self.made c.in_ok-visit.ensures.made

pub loop-next-preserved : goal.loop-next-preserved
loop-next-preserved c =
    let t = so_far-to_make c.loop-next.invariant c.in-Some.ensures.first in
    so_far-next c.loop-next.invariant c.in-Some.ensures.first c.in_ok-visit.visit c.visit_fate.result c.make.new.self.pipes.items
    c.make.new.self.due c.make.new.self.made (c.in_ok-visit.ensures.visit c.loop-next.invariant.visits t) c.visit_fate.ensures
    (c.in_ok-visit.ensures.making c.loop-next.invariant.visits t)

pub returns : goal.returns
returns c =
    so_far-whole (subst (λ held. AreFatesSoFar c.args.setup.now c.loop-next.maker.pipes.items held c.loop-next.maker.made c.loop-next.fates.items)
    c.in_default.ensures.none c.loop-next.invariant)
