use Rattle.std.proofs.Common.{◌≡◌, ◌≤◌, take, length}
use Rattle.std.specs.Ordering.{nat_cmp}
use Rattle.std.specs.BTreeMap.{get}
use Rattle.topo.specs.Links.{links_of}
use Rattle.topo.proofs.linking.links_of.Given as goal

abbrev pub invariant-loop-edge : goal.invariant-loop-edge
invariant-loop-edge l = record {
  links : l.links.items ≡ links_of l.directed (get nat_cmp l.numbers) (take l.edge-index l.edges);
  few : length l.links.items ≤ 32768;
}
