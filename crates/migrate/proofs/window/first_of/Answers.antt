use Rattle.std.proofs.Common.{slice_get, ap, ◌∙◌, subst}
use Rattle.deadline_heap.specs.Canonical.{IsCanonical}
use Rattle.migrate.specs.ShelvesView.{ShelfView}
use Rattle.migrate.proofs.ShelfSteps.{get-at}
use Rattle.migrate.proofs.FirstDue.{first-more, first-whole, none-whole, none-first}
use Rattle.migrate.proofs.window.first_of.Goals as goal

pub loop-core-init : goal.loop-core-init
loop-core-init c = none-first c.args.shelves.now

pub loop-core-preserved : goal.loop-core-preserved
loop-core-preserved c =
    first-more c.args.shelves.now c.loop-core.core c.index-shelves-core.result
    (get-at c.args.shelves.now c.loop-core.core c.index-shelves-core.result c.loop-core-test.true c.index-shelves-core.is)
    (subst (λ (s : ShelfView). IsCanonical s.due) c.shelf.view_is c.first.ensures.canonical)
    c.loop-core.head c.earlier-head.result c.first.result
    (c.first.ensures.first ∙ ap (λ (s : ShelfView). slice_get s.due 0) c.shelf.view_is)
    c.loop-core.invariant c.earlier-head.ensures

pub returns-clause-first : goal.returns-clause-first
returns-clause-first c =
    first-whole c.args.shelves.now c.loop-core.core c.loop-core.head c.loop-core-test.false c.loop-core.invariant

pub returns-clause-none : goal.returns-clause-none
returns-clause-none c =
    none-whole c.args.shelves.now c.loop-core.core c.loop-core.head c.loop-core-test.false c.loop-core.invariant
