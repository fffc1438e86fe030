use Rattle.std.proofs.Common.{◌<◌, sym, subst}
use Rattle.routes.specs.GraphView.{GraphView}
use Rattle.routes.proofs.IncomingRows.{row_into}
use Rattle.routes.proofs.incoming.Incoming.row.Goals as goal

pub returns : goal.returns
returns c =
    rw (← c.self.view_is, c.as_slice.ensures.value)
    (row_into
    c.self.inside.rows.items
    c.args.node
    c.index.result.now
    c.self.invariant
    (subst (λ (g : GraphView). c.args.node < g.nodes) (sym c.self.view_is) c.requires)
    c.index.ensures)
