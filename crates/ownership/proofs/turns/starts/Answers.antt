use Rattle.std.proofs.Common.{◌+◌, sym, subst}
use Rattle.ownership.specs.Turning.{HaveStarted}
use Rattle.ownership.proofs.Places.{none_started, one_started}
use Rattle.ownership.proofs.turns.starts.Goals as goal

pub loop-core-init : goal.loop-core-init
loop-core-init c =
    subst (HaveStarted c.args.distilled.now c.args.cores 0) (sym c.new-reaches.ensures.items) (none_started c.args.distilled.now c.args.cores)

pub loop-core-preserved : goal.loop-core-preserved
loop-core-preserved c =
    subst (HaveStarted c.args.distilled.now c.args.cores (c.loop-core.core + 1)) (sym c.in_ok-push.ensures.items)
    (one_started c.args.distilled.now c.args.cores c.loop-core.core c.loop-core.reaches.items c.in_ok-reach.reach c.loop-core.invariant
    c.in_ok-reach.ensures)
