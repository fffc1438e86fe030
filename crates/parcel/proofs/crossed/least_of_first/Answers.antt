use Rattle.std.proofs.Common.{◌+◌, ap, sym, ◌∙◌, subst}
use Rattle.mn_base.specs.declared.limits.TheConstants.{LOOKAHEAD_MAX}
use Rattle.journal.specs.SetupView.{SetupView}
use Rattle.parcel.specs.PipeSets.{IsLeastOf, IsFirstLatency}
use Rattle.parcel.proofs.LeastLatency.{IsReadAt, first_more, first_same}
use Rattle.parcel.proofs.crossed.least_of_first.Goals as goal
use Rattle.parcel.proofs.crossed.least_of_first.Goals.{then-has, else-has}

pub loop-pipe-preserved : goal.loop-pipe-preserved
loop-pipe-preserved c =
    let at : IsReadAt c.args.parts.now.pipes c.deref-params-items.result.now c.loop-pipe.pipe c.params-item.result = record {
      same = c.deref-params-items.ensures.value ∙ ap (λ (v : SetupView). v.pipes) c.parts.view_is;
      within = c.loop-pipe-test.true;
      read = c.params-item.is;
    } in
    let Is = IsFirstLatency c.args.parts.now c.args.crossed.now in
    elim c.if-has.branch [
      | then-has w ↦
          subst (IsLeastOf LOOKAHEAD_MAX Is (c.loop-pipe.pipe + 1)) (sym (w.least-is ∙ w.min-least.ensures))
          (first_more c.args.parts.now c.args.crossed.now at c.loop-pipe.invariant (sym c.has.ensures ∙ w.if-has.true))
      | else-has w ↦
          subst (IsLeastOf LOOKAHEAD_MAX Is (c.loop-pipe.pipe + 1)) (sym w.least-is)
          (first_same c.args.parts.now c.args.crossed.now at c.loop-pipe.invariant (sym c.has.ensures ∙ w.if-has.false))
    ]
