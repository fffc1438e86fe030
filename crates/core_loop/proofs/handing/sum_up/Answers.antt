use Rattle.std.proofs.Common.{List, [], ◌∷◌, ◌++◌, take, sym, ap, ◌∙◌, subst, arith}
use Rattle.std.proofs.lemmas.List.{take_more}
use Rattle.parcel.specs.Told.{Told}
use Rattle.core_loop.specs.Handing.{sent_with}
use Rattle.core_loop.proofs.Sums.{IsSumOf, sum-room, sum-skip, sum-more}
use Rattle.core_loop.proofs.handing.sum_up.Goals as goal
use Rattle.core_loop.proofs.handing.sum_up.Goals.{then-each-number, else-each-number}

pub and-sent-requires-clause-arrivals : goal.and-sent-requires-clause-arrivals
and-sent-requires-clause-arrivals c =
    let room = sum-room c.args.number c.args.told.now c.loop-each.each-index c.loop-each.sent (omega (arith, c.loop-each-test.true)) c.loop-each.invariant in
    omega (arith, room.0, c.loop-each-test.true, c.loop-each.auto.each-index-end)

pub and-sent-requires-clause-settles : goal.and-sent-requires-clause-settles
and-sent-requires-clause-settles c =
    let room = sum-room c.args.number c.args.told.now c.loop-each.each-index c.loop-each.sent (omega (arith, c.loop-each-test.true)) c.loop-each.invariant in
    omega (arith, room.1, c.loop-each-test.true, c.loop-each.auto.each-index-end)

pub loop-each-preserved : goal.loop-each-preserved
loop-each-preserved c =
    subst (λ (done : List Told). IsSumOf c.args.number done c.if-each-number.sent)
    (sym (take_more c.args.told.now c.loop-each.each-index c.each-item.result c.loop-each-test.true
    ∙ ap (λ (t : Told). take c.loop-each.each-index c.args.told.now ++ t ∷ []) (sym c.each-item.is)))
    (elim c.if-each-number.branch [
      | then-each-number w ↦ subst (IsSumOf c.args.number (take c.loop-each.each-index c.args.told.now ++ c.each-item.result ∷ []))
          (sym (w.sent-is ∙ w.and-sent.ensures ∙ ap (λ (t : Told). sent_with c.loop-each.sent t.note) c.each.view_is))
          (sum-more c.args.number (take c.loop-each.each-index c.args.told.now) c.each-item.result c.loop-each.sent
          (λ e. w.if-each-number.true (ap (λ (t : Told). t.receiver) c.each.view_is ∙ e)) c.loop-each.invariant)
      | else-each-number w ↦ subst (IsSumOf c.args.number (take c.loop-each.each-index c.args.told.now ++ c.each-item.result ∷ [])) (sym w.sent-is)
          (sum-skip c.args.number (take c.loop-each.each-index c.args.told.now) c.each-item.result c.loop-each.sent
          (sym (ap (λ (t : Told). t.receiver) c.each.view_is) ∙ w.if-each-number.false) c.loop-each.invariant)
    ])
