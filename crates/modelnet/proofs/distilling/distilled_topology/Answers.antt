use Rattle.std.proofs.Common.{◌≡◌, Err, rules}
use Rattle.modelnet.specs.Statuses.{topology_refusal, pipes_refusal}
use Rattle.modelnet.proofs.TopologyRefused.{topology_refused, pipes_refused}
use Rattle.modelnet.proofs.distilling.distilled_topology.Goals as goal

pub returns-in_err-topology-clause-refusal : goal.returns-in_err-topology-clause-refusal
returns-in_err-topology-clause-refusal c =
    let is : c.from_residual.result ≡ Err (topology_refusal c.in_err-topology.field-0.0) = search rules in
    rw is (topology_refused c.args.mode c.args.text c.in_err-topology.field-0.0 c.in_err-topology.ensures.fault)

pub returns-in_err-distilled-clause-refusal : goal.returns-in_err-distilled-clause-refusal
returns-in_err-distilled-clause-refusal c =
    let is : c.from_residual-in_err-distilled.result ≡ Err (pipes_refusal c.in_err-distilled.field-0.0) = search rules in
    rw is (pipes_refused c.args.mode c.args.text c.in_ok-topology.topology c.in_err-distilled.field-0.0
    c.in_ok-topology.ensures.read c.in_err-distilled.ensures.too_many)
