use Rattle.std.proofs.Common.{◌<◌, sym, subst}
use Rattle.distill.specs.Distilled.{DistilledView}
use Rattle.ownership.proofs.Rows.{row_of}
use Rattle.ownership.proofs.incidence.Incidence.row.Goals as goal

pub returns : goal.returns
returns c =
    rw (← c.self.view_is, c.as_slice.ensures.value)
    (row_of
    c.self.inside.distilled.now
    c.self.inside.rows.items
    c.args.node
    c.index.result.now
    c.self.invariant
    (subst (λ (d : DistilledView). c.args.node < d.nodes) (sym c.self.view_is) c.requires)
    c.index.ensures)
