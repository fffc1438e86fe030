use Rattle.std.proofs.Common.{◌%◌, List, None, sym, subst, ◌∙◌}
use Rattle.ownership.specs.Assignment.{Owned, owned_after}
use Rattle.ownership.specs.Turning.{HoldsTurns}
use Rattle.ownership.proofs.TurnSteps.{owned_next, after_none}
use Rattle.ownership.proofs.turns.Turns.take.Goals as goal

pub returns-in-None : goal.returns-in-None
returns-in-None c =
    subst (λ (owned : List Owned). HoldsTurns c.args.distilled.now c.args.cores owned None c.pick.new.self)
    (sym (owned_next c.args.distilled.now c.args.cores c.args.turn
    ∙ after_none c.args.distilled.now c.args.cores (owned_after c.args.distilled.now c.args.cores c.args.turn) (c.args.turn % c.args.cores)
    (sym c.in-None.ensures.pipe)))
    c.in-None.ensures.holds
