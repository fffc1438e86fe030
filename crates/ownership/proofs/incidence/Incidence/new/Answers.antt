use Rattle.std.proofs.Common.{◌≡◌, length, refl, sym, ◌∙◌, ap, arith}
use Rattle.ownership.specs.Turning.{row_lists}
use Rattle.ownership.proofs.Rows.{none_yet, both_pushed, all_rows}
use Rattle.ownership.proofs.incidence.Incidence.new.Goals as goal

pub loop-number-init : goal.loop-number-init
loop-number-init c =
    none_yet c.args.distilled.now.pipes c.args.distilled.now.nodes c.in_ok-rows.rows.items
    (sym c.in_ok-rows.rows.ok.0 ∙ c.in_ok-rows.ensures.len ∙ c.nodes.ensures.value) c.in_ok-rows.ensures.empty

pub loop-number-preserved : goal.loop-number-preserved
loop-number-preserved c =
    both_pushed c.args.distilled.now c.loop-number.number c.loop-number.rows.items
    (record {
      keeps = c.pipes-pipe-items.ensures.valid;
      pipes = c.pipes-pipe-items.result.now;
      pipes_are = c.pipes-pipe-items.ensures.lent;
      low = c.loop-number-test.true;
      pipe = c.pipe-item.result;
      pipe_is = c.pipe-item.is;
      from_row = c.index_mut.result.now;
      from_row_is = c.index_mut.ensures.value;
      from_row_after = c.push.new.self;
      from_pushed = c.in_ok-push.ensures.items;
      to_row = c.index_mut-in-loop-number.result.now;
      to_row_is = c.index_mut-in-loop-number.ensures.value;
      to_row_after = c.push-in-loop-number.new.self;
      to_pushed = c.in_ok-push-2.ensures.items;
    })
    c.loop-number.invariant

pub invariant_of-result : goal.invariant_of-result
invariant_of-result c =
    let len : length c.pipes-pipe-items.result.now ≡ length c.args.distilled.now.pipes = ap length c.pipes-pipe-items.ensures.lent in
    all_rows c.args.distilled.now c.args.distilled.now.pipes c.loop-number.number (row_lists c.loop-number.rows.items) refl
    (omega (arith, len)) c.loop-number.invariant
