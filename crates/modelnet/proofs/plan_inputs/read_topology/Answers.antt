use Rattle.std.proofs.Common.{◌≡◌, Err, ap, rules}
use Rattle.modelnet.specs.Planning.{PlanningView}
use Rattle.modelnet.specs.Statuses.{topology_refusal}
use Rattle.modelnet.proofs.PlanReads.{topology_stops, topology_refused, has_topology}
use Rattle.modelnet.proofs.plan_inputs.read_topology.Goals as goal

pub returns-in_err-text-clause-stops : goal.returns-in_err-text-clause-stops
returns-in_err-text-clause-stops g c =
    let is : c.from_residual.result ≡ Err c.in_err-text.field-0.0 = search rules in
    rw is (topology_stops c.args.limits.now c.args.asked.now (g.H.Host.part c.args.host.now) (g.H.Host.part c.read_input.new.host)
    c.in_err-text.field-0.0 _ (ap (λ (p : PlanningView). p.topology) c.asked.view_is)
    c.in_err-text.ensures.own c.in_err-text.ensures.others)

pub returns-in_err-topology-clause-stops : goal.returns-in_err-topology-clause-stops
returns-in_err-topology-clause-stops g c =
    let is : c.from_residual-in_err-topology.result ≡ Err (topology_refusal c.in_err-topology.field-0.0) = search rules in
    rw is (topology_refused c.args.limits.now c.args.asked.now (g.H.Host.part c.args.host.now) (g.H.Host.part c.read_input.new.host)
    c.in_ok-text.text c.as_slice.result.now c.in_err-topology.field-0.0
    (record {
      name = _;
      named = ap (λ (p : PlanningView). p.topology) c.asked.view_is;
      own = c.in_ok-text.ensures.own;
      others = c.in_ok-text.ensures.others;
    })
    c.as_slice.ensures.lent c.in_err-topology.ensures.fault)

pub returns-clause-read : goal.returns-clause-read
returns-clause-read g c =
    has_topology c.args.limits.now c.args.asked.now (g.H.Host.part c.args.host.now) (g.H.Host.part c.read_input.new.host)
    c.in_ok-text.text c.as_slice.result.now c.in_ok-topology.topology
    (record {
      name = _;
      named = ap (λ (p : PlanningView). p.topology) c.asked.view_is;
      own = c.in_ok-text.ensures.own;
      others = c.in_ok-text.ensures.others;
    })
    c.as_slice.ensures.lent c.in_ok-topology.ensures.read
