use Rattle.std.proofs.Common.{ap, arith}
use Rattle.routes.specs.declared.graph.Arc.{Arc}
use Rattle.routes.proofs.Relaxing.{looks_at, arc_below, weight_fits, relaxes_on}
use Rattle.routes.proofs.search.Search.relax.Goals as goal

pub arc-arc-requires : goal.arc-arc-requires
arc-arc-requires c = arc_below (looks_at c.args.row.now c.loop-number.number-index c.loop-number.invariant.on c.loop-number-test.true)

pub overflow_add-label : goal.overflow_add-label
overflow_add-label c =
    let fits = weight_fits (looks_at c.args.row.now c.loop-number.number-index c.loop-number.invariant.on c.loop-number-test.true) in
    let read = ap (λ (a : Arc). a.weight) c.arc-arc.ensures in
    omega arith

pub loop-number-preserved : goal.loop-number-preserved
loop-number-preserved c =
    relaxes_on
    c.offer.new.self
    c.args.row.now
    c.loop-number.number-index
    c.arc-arc.result
    c.loop-number.invariant
    c.loop-number-test.true
    c.arc-arc.ensures
    c.in_ok-offer.ensures
