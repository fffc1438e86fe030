use Rattle.std.proofs.Common.{◌≤◌, IfSome, subst}
use Rattle.mn_base.specs.Among.{Among}
use Rattle.mn_base.specs.declared.due.Due.{Due}
use Rattle.core_loop.specs.Work.{WorkView}
use Rattle.core_loop.proofs.work.Work.least.Goals as goal

pub returns-clause-least : goal.returns-clause-least
returns-clause-least c =
    subst (λ (w : WorkView). IfSome c.least.result (λ tick. (other : Due) → Among other w.heap → tick ≤ other.tick)) c.self.view_is
    c.least.ensures.least
