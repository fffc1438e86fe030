use Rattle.std.proofs.Common.{List, [], ◌∷◌, ◌++◌, take, set, sym, ap, ◌∙◌, subst, arith}
use Rattle.std.proofs.lemmas.List.{take_more, take_all}
use Rattle.parcel.specs.Told.{Told}
use Rattle.core_loop.proofs.Sums.{AreSorted, sorted-none, sorted-more}
use Rattle.core_loop.proofs.handing.sort_out.Goals as goal

pub loop-each-init : goal.loop-each-init
loop-each-init c = sorted-none c.args.cores c.in_ok-notes.notes.items c.in_ok-notes.ensures.count c.in_ok-notes.ensures.empty

pub index_mut-requires : goal.index_mut-requires
index_mut-requires c =
    let named = c.requires c.loop-each.each-index c.each-item.result c.loop-each-test.true in
    omega (
      arith,
      named,
      c.loop-each.invariant.count,
      ap (λ (t : Told). t.receiver) c.each-item.is,
      ap (λ (t : Told). t.receiver) c.each.view_is,
    )

pub loop-each-preserved : goal.loop-each-preserved
loop-each-preserved c =
    let named = c.requires c.loop-each.each-index c.each-item.result c.loop-each-test.true in
    let one : Told = record { receiver = c.each.inside.receiver; note = c.each.inside.note } in
    subst (λ (done : List Told). AreSorted c.args.cores done (set c.loop-each.notes.items one.receiver c.push.new.self))
    (ap (λ (t : Told). take c.loop-each.each-index c.args.told.now ++ t ∷ []) (c.each.view_is ∙ c.each-item.is)
    ∙ sym (take_more c.args.told.now c.loop-each.each-index c.each-item.result c.loop-each-test.true))
    (sorted-more c.args.cores (take c.loop-each.each-index c.args.told.now) c.loop-each.notes.items one c.index_mut.result.now c.push.new.self
    c.loop-each.invariant
    (omega (arith, named, ap (λ (t : Told). t.receiver) c.each-item.is, ap (λ (t : Told). t.receiver) c.each.view_is))
    c.index_mut.ensures.value c.in_ok-push.ensures.items)

pub returns-clause-each : goal.returns-clause-each
returns-clause-each c =
    let all = take_all c.loop-each.each-index c.args.told.now c.loop-each-test.false in
    (subst (λ (told : List Told). AreSorted c.args.cores told c.loop-each.notes.items) all c.loop-each.invariant).each
