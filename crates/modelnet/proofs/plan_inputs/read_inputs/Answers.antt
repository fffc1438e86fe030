use Rattle.std.proofs.Common.{◌≡◌, Err, rules}
use Rattle.modelnet.proofs.plan_inputs.read_inputs.Goals as goal

pub returns-in_err-trace-clause-stops : goal.returns-in_err-trace-clause-stops
returns-in_err-trace-clause-stops g c =
    let is : c.from_residual-in_err-trace.result ≡ Err c.in_err-trace.field-0.0 = search rules in
    rw is (c.in_err-trace.ensures.read (g.H.Host.part c.args.host.now) c.in_ok-topology.topology c.in_ok-topology.ensures.read)

pub returns-in_err-directory-clause-stops : goal.returns-in_err-directory-clause-stops
returns-in_err-directory-clause-stops g c =
    let is : c.from_residual-in_err-directory.result ≡ Err c.in_err-directory.field-0.0 = search rules in
    let start = g.H.Host.part c.args.host.now in
    rw is (c.in_err-directory.ensures.read start c.in_ok-topology.topology c.in_ok-trace.trace
    (c.in_ok-trace.ensures.read start c.in_ok-topology.topology c.in_ok-topology.ensures.read))

pub returns-clause-read : goal.returns-clause-read
returns-clause-read g c =
    let start = g.H.Host.part c.args.host.now in
    c.in_ok-directory.ensures.read start c.in_ok-topology.topology c.in_ok-trace.trace
    (c.in_ok-trace.ensures.read start c.in_ok-topology.topology c.in_ok-topology.ensures.read)
