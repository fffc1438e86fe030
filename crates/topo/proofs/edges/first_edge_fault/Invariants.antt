use Rattle.std.proofs.Common.{◌≡◌, drop}
use Rattle.std.specs.Ordering.{nat_cmp}
use Rattle.std.specs.BTreeMap.{get}
use Rattle.topo.specs.Faults.{first_fault, edge_fault}
use Rattle.topo.proofs.edges.first_edge_fault.Given as goal

abbrev pub invariant-loop-e : goal.invariant-loop-e
invariant-loop-e l =
    first_fault (edge_fault (get nat_cmp l.numbers)) 0 l.edges ≡ first_fault (edge_fault (get nat_cmp l.numbers)) l.e (drop l.e l.edges)
