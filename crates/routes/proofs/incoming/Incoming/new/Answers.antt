use Rattle.std.proofs.Common.{◌≡◌, length, sym, ◌∙◌, ap, arith}
use Rattle.routes.specs.Search.{lists_of}
use Rattle.routes.proofs.IncomingRows.{Pushes, none_yet, one_arc_more, all_rows}
use Rattle.routes.proofs.incoming.Incoming.new.Goals as goal

pub loop-number-init : goal.loop-number-init
loop-number-init c =
    none_yet
    c.args.graph.now
    c.in_ok-rows.rows.items
    (sym c.in_ok-rows.rows.ok.0 ∙ c.in_ok-rows.ensures.len ∙ c.nodes.ensures.nodes)
    c.in_ok-rows.ensures.empty

pub loop-number-preserved : goal.loop-number-preserved
loop-number-preserved c =
    let step : Pushes
    c.args.graph.now
    c.arcs-arc-items.result.now
    c.loop-number.number
    c.loop-number.rows.items
    c.index_mut.result.now
    c.push.new.self
    = record {
      arcs_are = c.arcs-arc-items.ensures.arcs;
      limits = c.arcs-arc-items.ensures.limits;
      on = c.loop-number.invariant;
      below = c.loop-number-test.true;
      read = c.index_mut.ensures.value;
      pushed = c.in_ok-push.ensures.items;
    } in
    one_arc_more step

pub invariant_of-result : goal.invariant_of-result
invariant_of-result c =
    all_rows
    c.args.graph.now
    c.loop-number.number
    (lists_of c.loop-number.rows.items)
    c.loop-number.invariant
    (let len : length c.arcs-arc-items.result.now ≡ length c.args.graph.now.arcs = ap length c.arcs-arc-items.ensures.arcs in omega arith)
