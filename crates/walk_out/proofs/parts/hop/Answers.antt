use Rattle.std.proofs.Common.{ap, length, arith}
use Rattle.walk_out.proofs.Hops.{hop_parts-is}
use Rattle.walk_out.proofs.parts.hop.Goals as goal

pub returns : goal.returns
returns c =
    hop_parts-is c.args.topology.now c.loop-number.number _ _ _
    (omega (arith, ap length c.links.ensures.lent)) c.loop-number.invariant c.new.ensures.items c.new-2.ensures.items
