use Rattle.std.proofs.Common.{[], length, replicate, sym, ap, ◌∙◌, arith}
use Rattle.journal.specs.SetupView.{SetupView}
use Rattle.journal.proofs.PipeChanges.{empty-more, items_of}
use Rattle.journal.proofs.setup_pipe.empty_lists.Goals as goal

pub loop-alloc-init : goal.loop-alloc-init
loop-alloc-init c = record {
  empty = ap items_of c.new-lists.ensures.items ∙ ap (λ k. replicate k []) (sym c.new-lists.ensures.len);
  within = omega (arith, c.new-lists.ensures.len);
}

pub loop-alloc-preserved : goal.loop-alloc-preserved
loop-alloc-preserved c = record {
  empty =
      empty-more c.loop-alloc.lists.items c.push.new.self.items c.new.result _ c.loop-alloc.invariant.empty
      c.in_ok-push.ensures.items c.new.ensures.items
      ∙ ap (λ k. replicate k []) (sym c.in_ok-push.ensures.len);
  within = omega (arith, c.in_ok-push.ensures.len, c.loop-alloc-test.true, c.len.ensures);
}

pub returns : goal.returns
returns c =
    c.loop-alloc.invariant.empty
    ∙ ap (λ k. replicate k [])
    (omega (
      arith,
      c.loop-alloc.invariant.within,
      c.loop-alloc-test.false,
      c.len.ensures,
      c.len-count.ensures,
      ap (λ (s : SetupView). length s.pipes) (c.behind-setup.view_is ∙ c.parts.ensures.same),
    ))
