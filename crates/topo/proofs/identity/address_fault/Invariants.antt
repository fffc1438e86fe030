use Rattle.std.proofs.Common.{◌≡◌, ℕ, take, drop}
use Rattle.std.specs.Ordering.{nat_cmp}
use Rattle.std.specs.List.{list_any}
use Rattle.std.specs.BTreeSet.{contains}
use Rattle.topo.specs.Nodes.{has_address}
use Rattle.topo.specs.Faults.{first_fault, address_fault}
use Rattle.topo.proofs.identity.address_fault.Given as goal

abbrev pub invariant-loop-n : goal.invariant-loop-n
invariant-loop-n l = record {
  seen : (address : ℕ) → contains nat_cmp l.seen address ≡ list_any (has_address address) (take l.n l.nodes);
  so_far : first_fault (address_fault l.nodes) 0 l.nodes ≡ first_fault (address_fault l.nodes) l.n (drop l.n l.nodes);
}
