use Rattle.std.proofs.Common.{◌≡◌, ◌++◌, List, take, ap, sym, ◌∙◌}
use Rattle.std.specs.List.{flat_map}
use Rattle.parcel.specs.declared.counts.PipeCounts.{PipeCounts}
use Rattle.parcel.specs.CoreResultView.{CoreResultView}
use Rattle.std.proofs.lemmas.List.{take_all}
use Rattle.settle.proofs.Joined.{pieces-more}
use Rattle.settle.proofs.merging.all_pipe_counts.Goals as goal

abbrev piece : CoreResultView → List PipeCounts
piece r = r.pipe_counts

pub loop-core-init : goal.loop-core-init
loop-core-init c = c.in_ok-all.ensures.items

pub loop-core-preserved : goal.loop-core-preserved
loop-core-preserved c =
    let own : c.deref.result.now ≡ piece c.core-item.result = c.deref.ensures.value ∙ ap piece c.core.view_is in
    c.in_ok-extend_from_slice.ensures.items
    ∙ ap (λ xs. xs ++ c.deref.result.now) c.loop-core.invariant
    ∙ ap (λ xs. flat_map piece (take c.loop-core.core-index c.args.results.now) ++ xs) own
    ∙ sym (pieces-more piece c.args.results.now c.loop-core.core-index c.core-item.result c.loop-core-test.true c.core-item.is)

pub returns : goal.returns
returns c = c.loop-core.invariant ∙ ap (flat_map piece) (take_all c.loop-core.core-index c.args.results.now c.loop-core-test.false)
