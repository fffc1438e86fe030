use Rattle.std.proofs.Common.{◌≡◌, List, get_or, subst, ap, arith}
use Rattle.routes.specs.declared.graph.Arc.{Arc}
use Rattle.routes.specs.GraphView.{GraphView}
use Rattle.distill.specs.Rows.{HasSourceCount}
use Rattle.distill.proofs.MeshPairs.{count_next, whole_count}
use Rattle.distill.proofs.meshing.count_pairs.Goals as goal

pub loop-target-preserved : goal.loop-target-preserved
loop-target-preserved c =
    let arcs : c.in_ok-routes.routes.graph.arcs ≡ c.args.incoming.now.arcs = ap (λ (g : GraphView). g.arcs) c.in_ok-routes.ensures.graph in
    let found = subst (λ (links : List Arc). HasSourceCount links c.args.border.now
    (get_or c.args.border.now c.loop-target.target-index 0) c.count_sources-count.result) arcs c.count_sources-count.ensures.counted in
    record {
      counted = count_next c.args.incoming.now.arcs c.args.border.now c.loop-target.target-index 0 c.loop-target.count
          c.count_sources-count.result c.requires.distinct c.loop-target-test.true c.loop-target.invariant.counted found;
      few = omega (arith, c.loop-target.invariant.few, c.count_sources-count.ensures.few);
    }

pub returns-clause-counted : goal.returns-clause-counted
returns-clause-counted c =
    whole_count c.args.incoming.now.arcs c.args.border.now c.loop-target.target-index c.loop-target.count c.loop-target-test.false
    c.loop-target.invariant.counted
