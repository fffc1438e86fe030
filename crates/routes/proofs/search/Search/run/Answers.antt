use Rattle.std.proofs.Common.{sym, subst}
use Rattle.routes.specs.GraphView.{GraphView}
use Rattle.routes.specs.Searching.{IsSearching}
use Rattle.routes.proofs.Settling.{row_next}
use Rattle.routes.proofs.search.Search.run.Goals as goal

pub relax-requires : goal.relax-requires
relax-requires c =
    subst
    (λ (g : GraphView). IsSearching g c.settle.new.self c.in-Some.label c.row.result.now)
    (sym c.graph.ensures)
    (row_next c.row.result.now c.loop-node.invariant.rest c.in-Some.ensures.settles c.row.ensures)
