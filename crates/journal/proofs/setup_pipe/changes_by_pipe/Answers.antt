use Rattle.std.proofs.Common.{List, length, slice_index_or, ap, ◌∙◌, arith}
use Rattle.journal.specs.declared.setup.PipeChange.{PipeChange}
use Rattle.journal.specs.SetupView.{SetupView}
use Rattle.journal.proofs.PipeChanges.{changes-none, changes-all, named-list, put-more}
use Rattle.journal.proofs.setup_pipe.changes_by_pipe.Goals as goal

pub loop-change-init : goal.loop-change-init
loop-change-init c = changes-none c.args.setup.now _ c.in_ok-lists.ensures

pub index_mut-requires : goal.index_mut-requires
index_mut-requires c =
    let same = c.deref-change-items.ensures.value ∙ ap (λ (s : SetupView). s.changes) (c.behind-setup.view_is ∙ c.parts.ensures.same) in
    let named = named-list c.args.setup.now c.parts.ensures.kept c.loop-change.change-index c.loop-change.lists.items
    c.change-item.result c.loop-change.invariant (omega (arith, c.loop-change-test.true, ap length same))
    (c.change-item.is ∙ ap (λ (xs : List PipeChange). slice_index_or xs c.loop-change.change-index c.change-item.result) same) in
    omega (arith, named)

pub loop-change-preserved : goal.loop-change-preserved
loop-change-preserved c =
    let same = c.deref-change-items.ensures.value ∙ ap (λ (s : SetupView). s.changes) (c.behind-setup.view_is ∙ c.parts.ensures.same) in
    put-more c.parts.ensures.kept c.loop-change.lists.items c.push.new.self c.loop-change.invariant (omega (arith, c.loop-change-test.true, ap length same))
    (c.change-item.is ∙ ap (λ (xs : List PipeChange). slice_index_or xs c.loop-change.change-index c.change-item.result) same)
    c.index_mut.ensures.value c.in_ok-push.ensures.items

pub returns : goal.returns
returns c =
    let same = c.deref-change-items.ensures.value ∙ ap (λ (s : SetupView). s.changes) (c.behind-setup.view_is ∙ c.parts.ensures.same) in
    changes-all c.args.setup.now c.loop-change.change-index _ c.loop-change.invariant
    (omega (arith, c.loop-change-test.false, ap length same))
