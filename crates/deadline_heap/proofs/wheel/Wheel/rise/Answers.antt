use Rattle.std.proofs.Common.{sym, ap, ◌∙◌, subst, arith}
use Rattle.mn_base.specs.Among.{Among}
use Rattle.deadline_heap.specs.WheelView.{WheelView}
use Rattle.deadline_heap.proofs.Ring.{rises, rises_to}
use Rattle.deadline_heap.proofs.wheel.Wheel.rise.Goals as goal

pub invariant_of-self : goal.invariant_of-self
invariant_of-self c =
    rises c.self.inside.slots.items c.self.inside.marks c.self.inside.base c.args.tick (omega arith)
    (λ due there. c.requires due (subst (λ (v : WheelView). Among due v.visits) c.self.view_is there))
    c.self.invariant

pub returns-then-self-tick-clause-visits : goal.returns-then-self-tick-clause-visits
returns-then-self-tick-clause-visits c =
    sym (rises_to c.self.inside.slots.items c.self.inside.base c.args.tick (omega arith)
    (λ due there. c.requires due (subst (λ (v : WheelView). Among due v.visits) c.self.view_is there)))
    ∙ ap (λ (v : WheelView). v.visits) c.self.view_is
