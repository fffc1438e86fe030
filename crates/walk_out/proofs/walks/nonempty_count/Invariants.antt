use Rattle.std.proofs.Common.{◌≡◌, ◌≤◌, map, take}
use Rattle.walk_out.specs.WalkOut.{nonempty_count}
use Rattle.walk_out.proofs.walks.nonempty_count.Given as goal

abbrev pub invariant-loop-frontier : goal.invariant-loop-frontier
invariant-loop-frontier l = record {
  value : l.count ≡ nonempty_count (map (λ f. f.items) (take l.frontier-index l.frontiers));
  bound : l.count ≤ l.frontier-index;
}
