use Rattle.std.proofs.Common.{[], slice_index_or, ap, ◌∙◌, arith}
use Rattle.core_loop.proofs.Sums.{Lists, items_of, empty-push}
use Rattle.core_loop.proofs.handing.no_notes.Goals as goal

pub loop-core-preserved : goal.loop-core-preserved
loop-core-preserved c = record {
  count = omega (arith, c.loop-core.invariant.count, c.in_ok-push.ensures.len);
  empty = λ core.
      ap (λ (ls : Lists). slice_index_or (items_of ls) core []) c.in_ok-push.ensures.items
      ∙ empty-push c.loop-core.notes.items c.new.result c.loop-core.invariant.empty c.new.ensures.items core;
}
