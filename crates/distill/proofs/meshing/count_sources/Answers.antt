use Rattle.std.proofs.Common.{◌+◌, ℕ, subst, sym, arith}
use Rattle.distill.specs.Rows.{HasSourceCount}
use Rattle.std.proofs.Common.{take}
use Rattle.distill.proofs.MeshRows.{source_count_next, no_source_count, one_or_none}
use Rattle.distill.proofs.meshing.count_sources.Goals as goal

pub loop-source-init : goal.loop-source-init
loop-source-init c = record { counted = no_source_count c.args.routes.now.graph.arcs c.args.target; few = omega arith }

-- One source more counts where it is joined, as it stands nowhere before.
pub loop-source-preserved : goal.loop-source-preserved
loop-source-preserved c =
    let next = source_count_next c.args.sources.now c.loop-source.source-index _ c.is_source.result c.requires.distinct
    c.loop-source-test.true c.loop-source.invariant.counted c.is_source.ensures in
    record {
      counted = subst (λ (n : ℕ). HasSourceCount c.args.routes.now.graph.arcs
          (take (c.loop-source.source-index + 1) c.args.sources.now) c.args.target (c.loop-source.count + n))
          (sym c.one_if-count.ensures) next;
      few = omega (arith, c.loop-source.invariant.few, c.one_if-count.ensures, one_or_none c.is_source.result);
    }
