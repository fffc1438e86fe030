use Rattle.std.proofs.Common.{length, ap, sym, subst, arith}
use Rattle.distill.specs.Sound.{AreSound}
use Rattle.distill.proofs.PartsSound.{parts_are_sound}
use Rattle.distill.proofs.distilling.distill.Goals as goal

pub pipes_of-requires-clause-parts : goal.pipes_of-requires-clause-parts
pipes_of-requires-clause-parts c =
    subst (AreSound c.args.topology.now) (sym c.in_ok-parts.ensures)
    (parts_are_sound c.args.topology.now c.args.mode (omega (arith, ap length c.nodes.ensures.lent, c.nodes.ensures.few)))
