use Rattle.std.proofs.Common.{sym, ◌∙◌}
use Rattle.red_queue.proofs.NeverLost.{never_lost}
use Rattle.red_queue.proofs.at_work.AtWork.loses.Goals as goal

pub returns-then-self-eq-KEEP_MAX-clause-lost : goal.returns-then-self-eq-KEEP_MAX-clause-lost
returns-then-self-eq-KEEP_MAX-clause-lost c =
    rw (← c.self.view_is)
    (never_lost c.self.inside.earlies.seed c.self.inside.number c.args.packet _ (sym c.self.invariant.keep ∙ c.if-self-eq-KEEP_MAX.true))
