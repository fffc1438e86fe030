use Rattle.distill.proofs.LinkLists.{kept_more}
use Rattle.distill.proofs.links.kept_pipes.Goals as goal

-- The pipe of one link more stands after those of the links before.
pub loop-link-preserved : goal.loop-link-preserved
loop-link-preserved c =
    kept_more c.args.tick_ns c.args.links.now c.loop-link.pipes.items c.loop-link.link-index _ c.loop-link-test.true c.loop-link.invariant
    c.pipe_along.ensures c.in_ok-push.ensures.items
