use Rattle.std.proofs.Common.{◌≡◌}
use Rattle.ownership.proofs.NodeAdded.{RowSoFar}
use Rattle.ownership.proofs.reach.Reach.add_node.Given as goal

-- the free pipes of the row so far are among those that may be taken
abbrev pub invariant-loop-pipe : goal.invariant-loop-pipe
invariant-loop-pipe l = record {
  nodes : l.self.nodes ≡ l.initial.self.nodes;
  so_far : RowSoFar l.initial.self.near l.row l.owners l.pipe-index l.self.near;
}
