use Rattle.std.proofs.Common.{◌≡◌, ℕ, length, take}
use Rattle.frontier.specs.NodeSets.{has, is_beside}
use Rattle.frontier.proofs.node_sets.NodeSet.beside.Given as goal

abbrev pub invariant-loop-link : goal.invariant-loop-link
invariant-loop-link l = record {
  size : length l.beside ≡ length l.self;
  beside : (v : ℕ) → has l.beside v ≡ is_beside (take l.link-index l.links) (has l.self) v;
}
