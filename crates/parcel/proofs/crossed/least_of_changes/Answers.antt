use Rattle.std.proofs.Common.{◌+◌, ap, sym, ◌∙◌, subst}
use Rattle.journal.specs.SetupView.{SetupView}
use Rattle.parcel.specs.PipeSets.{IsLeastOf, IsChangedLatency}
use Rattle.parcel.proofs.LeastLatency.{IsReadAt, changed_more, changed_same}
use Rattle.parcel.proofs.crossed.least_of_changes.Goals as goal
use Rattle.parcel.proofs.crossed.least_of_changes.Goals.{then-has, else-has}

pub loop-change-preserved : goal.loop-change-preserved
loop-change-preserved c =
    let at : IsReadAt c.args.parts.now.changes c.deref-change-items.result.now c.loop-change.change-index c.change-item.result = record {
      same = c.deref-change-items.ensures.value ∙ ap (λ (v : SetupView). v.changes) c.parts.view_is;
      within = c.loop-change-test.true;
      read = c.change-item.is;
    } in
    let Is = IsChangedLatency c.args.parts.now c.args.crossed.now in
    elim c.if-has.branch [
      | then-has w ↦
          subst (IsLeastOf c.args.latency Is (c.loop-change.change-index + 1)) (sym (w.least-is ∙ w.min-least.ensures))
          (changed_more c.args.parts.now c.args.crossed.now at c.loop-change.invariant (sym c.has.ensures ∙ w.if-has.true))
      | else-has w ↦
          subst (IsLeastOf c.args.latency Is (c.loop-change.change-index + 1)) (sym w.least-is)
          (changed_same c.args.parts.now c.args.crossed.now at c.loop-change.invariant (sym c.has.ensures ∙ w.if-has.false))
    ]
