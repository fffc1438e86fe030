use Rattle.std.proofs.Common.{sym, ap, ◌∙◌, arith}
use Rattle.migrate.specs.ShelvesView.{ShelfView}
use Rattle.migrate.specs.Finishing.{core_counts_of}
use Rattle.migrate.proofs.CoreLists.{of-none, of-more, of-whole}
use Rattle.migrate.proofs.CoresAtEnd.{counts-here}
use Rattle.migrate.proofs.ShelfSteps.{get-at}
use Rattle.migrate.proofs.finishing.core_counts.Goals as goal

pub loop-core-init : goal.loop-core-init
loop-core-init c =
    of-none (core_counts_of c.args.setup.now c.args.owners.now c.args.windows) c.args.shelves.now c.in_ok-cores.cores.items
    c.in_ok-cores.ensures.items

pub loop-core-preserved : goal.loop-core-preserved
loop-core-preserved c =
    of-more (core_counts_of c.args.setup.now c.args.owners.now c.args.windows) c.args.shelves.now c.loop-core.core c.loop-core.cores.items
    c.push.new.self.items
    (record {
      pipes = c.count_owned.result;
      entered = c.count_entrants.result;
      visits = c.shelf.inside.visits;
      arrivals = 0;
      settles = 0;
      windows = c.args.windows;
    }) c.loop-core.invariant c.in_ok-push.ensures.items
    (λ s e. counts-here c.args.setup.now c.args.owners.now c.args.windows c.loop-core.core
    (sym (get-at c.args.shelves.now c.loop-core.core c.index-shelves-core.result c.loop-core-test.true c.index-shelves-core.is) ∙ e)
    c.count_owned.ensures c.count_entrants.ensures (ap (λ (t : ShelfView). t.visits) c.shelf.view_is))

pub returns-clause-count : goal.returns-clause-count
returns-clause-count c =
    let n = c.loop-core.invariant.count in
    let l = c.loop-core.auto.core-end in
    omega (arith, n, l, c.loop-core-test.false)

pub returns-clause-each : goal.returns-clause-each
returns-clause-each c =
    of-whole (core_counts_of c.args.setup.now c.args.owners.now c.args.windows) c.args.shelves.now c.loop-core.core c.loop-core.cores.items
    c.loop-core-test.false c.loop-core.invariant
