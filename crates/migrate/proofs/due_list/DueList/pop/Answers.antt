use Rattle.std.proofs.Common.{◌^◌, ◌-◌, ◌<◌, Option, sym, subst}
use Rattle.std.specs.Prelude.{IfSome}
use Rattle.mn_base.specs.declared.due.Due.{Due}
use Rattle.migrate.specs.Inside.{AreInSight}
use Rattle.migrate.proofs.InSight.{popped-in-sight, first-tick}
use Rattle.migrate.proofs.due_list.DueList.pop.Goals as goal

pub invariant_of-self : goal.invariant_of-self
invariant_of-self c =
    subst (λ (o : Option Due). AreInSight o c.pop_before-next.new.self) (sym c.replace.ensures.after)
    (popped-in-sight c.self.inside.first c.self.inside.later c.self.invariant c.pop_before-next.result c.pop_before-next.new.self
    c.pop_before-next.ensures.none c.pop_before-next.ensures.first)

pub returns-clause-tick : goal.returns-clause-tick
returns-clause-tick c =
    subst (λ (o : Option Due). IfSome o (λ due. due.tick < 2 ^ 64 - 1)) (sym c.replace.ensures.value)
    (first-tick c.self.inside.first c.self.inside.later c.self.invariant)
