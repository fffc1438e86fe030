use Rattle.std.proofs.Common.{arith}
use Rattle.frontier.specs.NodeSets.{has}
use Rattle.walk_out.proofs.Around.{parts_around-is}
use Rattle.walk_out.proofs.parts.parts_around.Goals as goal

pub returns : goal.returns
returns c =
    parts_around-is (has c.args.outer.now) c.args.border.items c.links-links.ensures.lent (omega arith) c.loop-number.invariant.kept
    c.loop-number.invariant.middle
