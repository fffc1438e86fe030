use Rattle.std.proofs.Common.{◌≡◌, ◌≤◌, ℕ, [], List, Result, Ok, Err, IfOk}
use Rattle.mn_base.specs.declared.refusal.Refusal.{Refusal}
use Rattle.distill.specs.Distilled.{DistilledView}
use Rattle.ownership.specs.Assignment.{assignment}
use Rattle.plan.specs.declared.directing.Directed.{Directed}
use Rattle.plan.specs.declared.faults.PlanFault.{PlanFault}
use Rattle.plan.specs.Grounds.{AreFit}
use Rattle.plan.specs.Setups.{AreDirected}
use Rattle.plan.proofs.Fits.{assignment_fits, text_fits}
use Rattle.plan.proofs.directing.direct.Goals as goal

fits : (d : DistilledView) (cores : ℕ) (r : Result Directed (Refusal PlanFault)) → 1 ≤ cores → IfOk r (λ made. made.directory ≡ assignment d cores)
    → IfOk r (λ made. made.changes.items ≡ []) → IfOk r (λ made. AreFit d cores made.directory made.changes.items)
fits d cores (Ok made) some directory none = assignment_fits d cores made.directory made.changes.items some directory none
fits d cores (Err e) some directory none = tt

pub returns-in-None-clause-fit : goal.returns-in-None-clause-fit
returns-in-None-clause-fit c =
    fits c.args.distilled.now c.args.cores c.by_assignment.result c.requires.some_core c.by_assignment.ensures.directory c.by_assignment.ensures.changes

fits_text : (d : DistilledView) (cores : ℕ) (text : List ℕ) (r : Result Directed (Refusal PlanFault)) → 1 ≤ cores
    → IfOk r (λ made. AreDirected d cores text made.directory made.changes.items) → IfOk r (λ made. AreFit d cores made.directory made.changes.items)
fits_text d cores text (Ok made) some directed = text_fits d cores text made.directory made.changes.items some directed
fits_text d cores text (Err e) some directed = tt

pub returns-in-Some-clause-fit : goal.returns-in-Some-clause-fit
returns-in-Some-clause-fit c =
    fits_text c.args.distilled.now c.args.cores c.in-Some.text.now c.by_text.result c.requires.some_core c.by_text.ensures.directed
