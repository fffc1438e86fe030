use Rattle.std.proofs.Common.{sym}
use Rattle.topo.proofs.Firsts.{first_fault_here, first_fault_later}
use Rattle.topo.proofs.edges.first_edge_fault.Goals as goal

pub returns-in-Some : goal.returns-in-Some
returns-in-Some c =
    sym (first_fault_here _ c.args.edges.now c.loop-e.e _ c.in-Some.fault _ c.loop-e-test.true c.loop-e.invariant c.in-Some.ensures)

pub loop-e-preserved : goal.loop-e-preserved
loop-e-preserved c =
    first_fault_later _ c.args.edges.now c.loop-e.e _ _ c.loop-e-test.true c.loop-e.invariant c.in_default.ensures
