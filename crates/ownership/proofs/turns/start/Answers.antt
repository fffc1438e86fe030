use Rattle.std.proofs.Common.{List, ℕ, length, get_or, subst, refl, ◌∙◌}
use Rattle.distill.specs.Distilled.{DistilledView}
use Rattle.ownership.specs.Turning.{IsRowOf}
use Rattle.ownership.proofs.Places.{row_below, free_at_start}
use Rattle.ownership.proofs.Giving.{started, start_node}
use Rattle.ownership.proofs.turns.start.Goals as goal

pub add_node-requires-clause-row : goal.add_node-requires-clause-row
add_node-requires-clause-row c =
    row_below c.args.distilled.now c.args.incidence.now _ c.row.result.now c.args.owners.now c.requires.incidence c.row.ensures c.requires.owners.len

pub returns : goal.returns
returns c =
    let es : List ℕ = c.edge_nodes-edge_nodes.result.now in
    let v : ℕ = get_or es c.start_place-place.result 0 in
    started c.args.distilled.now c.args.cores c.args.core c.add_node.new.self
    (record {
      node = v;
      node_is =
          start_node c.args.distilled.now es c.start_place-place.result c.args.core c.args.cores (length es) c.edge_nodes-edge_nodes.ensures.lent
          refl c.start_place-place.ensures c.if-place-edge_nodes.false;
      row = c.row.result.now;
      row_is = subst (λ (d : DistilledView). IsRowOf d.pipes v c.row.result.now) c.requires.incidence c.row.ensures;
      owners = c.args.owners.now;
      free = free_at_start (length c.args.distilled.now.pipes) c.args.owners.now c.requires.owners;
      old = c.in_ok-reach.reach;
      size = c.in_ok-reach.ensures.size ∙ c.nodes.ensures.value;
      empty = c.in_ok-reach.ensures.empty;
      none = c.in_ok-reach.ensures.none;
      adds = c.in_ok-add_node.ensures;
    })
