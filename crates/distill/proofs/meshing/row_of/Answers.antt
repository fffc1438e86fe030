use Rattle.distill.proofs.MeshRows.{row_next}
use Rattle.distill.proofs.meshing.row_of.Goals as goal

-- The row has what was found for one source more, which stands nowhere before.
pub loop-source-preserved : goal.loop-source-preserved
loop-source-preserved c =
    row_next c.args.sources.now c.loop-source.source-index _ c.in_ok-pipe.pipe c.requires.distinct c.loop-source-test.true
    c.loop-source.invariant c.in_ok-pipe.ensures c.in_ok-push_some.ensures
