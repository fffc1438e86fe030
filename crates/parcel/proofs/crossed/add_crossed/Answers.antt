use Rattle.std.proofs.Common.{◌+◌, sym, subst}
use Rattle.parcel.proofs.LeastLatency.{HasHops, hop_left, hop_stays}
use Rattle.parcel.proofs.crossed.add_crossed.Goals as goal
use Rattle.parcel.proofs.crossed.add_crossed.Goals.{then-owners-pipe, else-owners-pipe}

pub loop-hop-preserved : goal.loop-hop-preserved
loop-hop-preserved c =
    elim c.if-owners-pipe.branch [
      | then-owners-pipe w ↦
          subst (HasHops c.args.owners.now c.args.route.now c.args.crossed.now (c.loop-hop.hop + 1)) (sym w.crossed-is)
          (hop_left c.args.owners.now c.args.route.now c.args.crossed.now c.loop-hop.crossed _ c.loop-hop.auto.hop
          c.loop-hop-test.true c.loop-hop.invariant w.if-owners-pipe.true w.add.ensures)
      | else-owners-pipe w ↦
          subst (HasHops c.args.owners.now c.args.route.now c.args.crossed.now (c.loop-hop.hop + 1)) (sym w.crossed-is)
          (hop_stays c.args.owners.now c.args.route.now c.args.crossed.now c.loop-hop.crossed c.loop-hop.hop c.loop-hop.auto.hop
          c.loop-hop-test.true c.loop-hop.invariant w.if-owners-pipe.false)
    ]
