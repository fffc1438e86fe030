use Rattle.std.proofs.Common.{◌<◌, [], length, ap, ◌∙◌, arith}
use Rattle.std.proofs.lemmas.List.{length-map}
use Rattle.journal.specs.SetupView.{SetupView}
use Rattle.journal.proofs.VisitsTo.{pipes-more}
use Rattle.journal.proofs.PipeChanges.{Changes, taken-own, others-stay}
use Rattle.journal.proofs.setup_pipe.idle_pipes.Goals as goal

pub loop-number-init : goal.loop-number-init
loop-number-init c =
    let long = length-map c.in_ok-lists.lists.items (λ (list : Changes). list.items) in
    record {
      count = c.new-pipes.ensures.len;
      each = λ pipe d within. absurd (omega (arith, within, ap length c.new-pipes.ensures.items));
      lists = omega (arith, c.in_ok-lists.ensures.count, long);
      ahead = λ pipe d low within. c.in_ok-lists.ensures.each pipe d (omega (arith, within, c.in_ok-lists.ensures.count));
    }

pub unvisited-requires-clause-own : goal.unvisited-requires-clause-own
unvisited-requires-clause-own c =
    let within : c.loop-number.number < length c.args.setup.now.pipes = omega (
      arith,
      c.loop-number-test.true,
      c.len-number-end.ensures,
      ap (λ (s : SetupView). length s.pipes) (c.behind-setup.view_is ∙ c.parts.ensures.same),
    ) in
    taken-own c.loop-number.lists.items c.loop-number.number c.replace-changes.result c.index_mut.result.now _
    c.replace-changes.ensures.value c.index_mut.ensures.value (omega (arith, within, c.loop-number.invariant.lists))
    (c.loop-number.invariant.ahead c.loop-number.number [] (omega arith) within)

pub loop-number-preserved : goal.loop-number-preserved
loop-number-preserved c = record {
  count = omega (arith, c.in_ok-push.ensures.len);
  each = pipes-more c.loop-number.pipes.items c.unvisited.result c.push.new.self.items c.loop-number.number
      c.loop-number.invariant.each (omega (arith, c.loop-number.invariant.count)) c.in_ok-push.ensures.items c.unvisited.ensures;
  lists = c.loop-number.invariant.lists;
  ahead = λ pipe d low inside.
      others-stay c.loop-number.lists.items c.loop-number.number pipe c.replace-changes.new.dest d (λ same. omega (arith, low, same))
      ∙ c.loop-number.invariant.ahead pipe d (omega (arith, low)) inside;
}

pub returns : goal.returns
returns c = record {
  count = omega (
    arith,
    c.loop-number.invariant.count,
    c.loop-number-test.false,
    c.len-number-end.ensures,
    ap (λ (s : SetupView). length s.pipes) (c.behind-setup.view_is ∙ c.parts.ensures.same),
  );
  each = c.loop-number.invariant.each;
}
