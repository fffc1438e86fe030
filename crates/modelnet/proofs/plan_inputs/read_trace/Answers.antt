use Rattle.std.proofs.Common.{◌≡◌, Err, ap, rules}
use Rattle.modelnet.specs.Planning.{PlanningView}
use Rattle.modelnet.specs.Statuses.{trace_refusal}
use Rattle.modelnet.proofs.PlanReads.{trace_stops, trace_refused, has_trace}
use Rattle.modelnet.proofs.plan_inputs.read_trace.Goals as goal

pub returns-in_err-text-clause-read : goal.returns-in_err-text-clause-read
returns-in_err-text-clause-read g c =
    let is : c.from_residual.result ≡ Err c.in_err-text.field-0.0 = search rules in
    λ start topology has.
    rw is (trace_stops c.args.limits.now c.args.asked.now start (g.H.Host.part c.args.host.now) (g.H.Host.part c.read_input.new.host)
    topology c.in_err-text.field-0.0 _ has (ap (λ (p : PlanningView). p.trace) c.asked.view_is)
    c.in_err-text.ensures.own c.in_err-text.ensures.others)

pub returns-in_err-trace-clause-read : goal.returns-in_err-trace-clause-read
returns-in_err-trace-clause-read g c =
    let is : c.from_residual-in_err-trace.result ≡ Err (trace_refusal c.in_err-trace.field-0.0) = search rules in
    λ start topology has.
    rw is (trace_refused c.args.limits.now c.args.asked.now start (g.H.Host.part c.args.host.now) (g.H.Host.part c.read_input.new.host)
    topology c.in_ok-text.text c.as_slice.result.now c.in_err-trace.field-0.0 has
    (record {
      name = _;
      named = ap (λ (p : PlanningView). p.trace) c.asked.view_is;
      own = c.in_ok-text.ensures.own;
      others = c.in_ok-text.ensures.others;
    })
    c.as_slice.ensures.lent c.in_err-trace.ensures.fault)

pub returns-clause-read : goal.returns-clause-read
returns-clause-read g c =
    λ start topology has.
    has_trace c.args.limits.now c.args.asked.now start (g.H.Host.part c.args.host.now) (g.H.Host.part c.read_input.new.host)
    topology c.in_ok-trace.trace c.in_ok-text.text c.as_slice.result.now has
    (record {
      name = _;
      named = ap (λ (p : PlanningView). p.trace) c.asked.view_is;
      own = c.in_ok-text.ensures.own;
      others = c.in_ok-text.ensures.others;
    })
    c.as_slice.ensures.lent c.in_ok-trace.ensures.found
