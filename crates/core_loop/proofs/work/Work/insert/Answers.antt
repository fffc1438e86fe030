use Rattle.std.proofs.Common.{◌≡◌, ◌⊎◌, ◌↔◌, OnOk, sym, subst}
use Rattle.mn_base.specs.Among.{Among}
use Rattle.mn_base.specs.declared.due.Due.{Due}
use Rattle.deadline_heap.specs.Canonical.{HasNoneOf}
use Rattle.core_loop.specs.Work.{WorkView}
use Rattle.core_loop.proofs.work.Work.insert.Goals as goal

pub insert-requires : goal.insert-requires
insert-requires c = subst (λ (w : WorkView). HasNoneOf c.args.due.packet w.heap) (sym c.self.view_is) c.requires

pub returns-clause-members : goal.returns-clause-members
returns-clause-members c =
    subst (λ (w : WorkView). OnOk c.insert.result ((other : Due) → Among other c.insert.new.self ↔ ((c.args.due ≡ other) ⊎ Among other w.heap)))
    c.self.view_is c.insert.ensures.members
