use Rattle.std.proofs.Common.{◌≤◌, [], ◌∷◌, length, take, sym, ap, ◌∙◌, arith, length-append}
use Rattle.std.proofs.lemmas.List.{take_more, length-take-le, length-map}
use Rattle.plan.specs.Router.{binding_of, bindings_of}
use Rattle.plan.proofs.AllAnswers.{one_answered, answered_few}
use Rattle.plan.proofs.answering.answer_all.Goals as goal

pub bind-requires-clause-few : goal.bind-requires-clause-few
bind-requires-clause-few c =
    let few = answered_few c.args.by.now (take c.loop-number.number c.args.packets.now) (bindings_of c.loop-number.router.uses.items)
    c.loop-number.answers.items c.loop-number.invariant.answered in
    let long = length-map c.loop-number.router.uses.items binding_of in
    let below : c.loop-number.number ≤ length c.args.packets.now = omega arith in
    let taken = length-take-le c.loop-number.number c.args.packets.now below in
    omega (arith, few, long, taken)

pub loop-number-preserved : goal.loop-number-preserved
loop-number-preserved c =
    let items = ap length c.in_ok-push.ensures.items in
    let more = length-append c.loop-number.answers.items (c.in_ok-answer.answer ∷ []) in
    let count = c.loop-number.invariant.count in
    record {
      graph = c.in_ok-answer.ensures.graph ∙ c.loop-number.invariant.graph;
      holds = c.in_ok-answer.ensures.holds;
      count = omega (arith, items, more, count);
      answered =
          rw (
            c.in_ok-push.ensures.items,
            take_more c.args.packets.now c.loop-number.number c.index-packets-number.result c.loop-number-test.true,
            ← c.index-packets-number.is,
          )
          (one_answered c.args.by.now (take c.loop-number.number c.args.packets.now) (bindings_of c.loop-number.router.uses.items)
          (bindings_of c.bind.new.router.uses.items) c.loop-number.answers.items c.index-packets-number.result c.loop-number.number
          c.in_ok-answer.answer c.loop-number.invariant.answered
          (sym (length-take-le c.loop-number.number c.args.packets.now (omega arith))) c.in_ok-answer.ensures.answer);
    }
