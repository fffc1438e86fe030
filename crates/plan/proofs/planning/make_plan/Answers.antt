use Rattle.std.proofs.Common.{◌≤◌, length, subst, rules}
use Rattle.mn_base.specs.declared.limits.TheConstants.{PIPES_MAX}
use Rattle.distill.specs.Distilled.{DistilledView, IsDistilled}
use Rattle.plan.proofs.planning.make_plan.Goals as goal

pub returns-clause-planned : goal.returns-clause-planned
returns-clause-planned c =
    let distills : IsDistilled c.args.topology.now c.args.options.now.mode c.args.options.now.tick_ns c.in_ok-distilled.distilled =
    search (rules, c.in_ok-distilled.ensures.cases, c.in_ok-distilled.ensures.variant, c.distill.ensures.distilled) in
    record {
      distilled = c.in_ok-distilled.distilled;
      distills = distills;
      few = subst (λ (d : DistilledView). length d.pipes ≤ PIPES_MAX) c.distilled.view_is c.distilled.invariant.few_pipes;
      directory = c.in_ok-directed.directed.directory;
      changes = c.in_ok-directed.directed.changes.items;
      directed = c.in_ok-directed.ensures.directed;
      plans = c.in_ok-plan_over.ensures;
    }
