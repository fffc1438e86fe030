use Rattle.std.proofs.Common.{◌≡◌, ℕ, take, drop}
use Rattle.std.specs.Ordering.{nat_cmp}
use Rattle.std.specs.BTreeMap.{get}
use Rattle.topo.specs.Nodes.{node_with}
use Rattle.topo.specs.Faults.{first_fault, id_fault}
use Rattle.topo.proofs.identity.numbers_by_id.Given as goal

abbrev pub invariant-loop-n : goal.invariant-loop-n
invariant-loop-n l = record {
  numbers : (id : ℕ) → get nat_cmp l.numbers id ≡ node_with (take l.n l.nodes) id;
  so_far : first_fault (id_fault l.nodes) 0 l.nodes ≡ first_fault (id_fault l.nodes) l.n (drop l.n l.nodes);
}
