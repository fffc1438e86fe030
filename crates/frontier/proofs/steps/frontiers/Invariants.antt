use Rattle.std.proofs.Common.{◌≡◌, ℕ, ◌<◌, All, length, map}
use Rattle.frontier.specs.NodeSets.{has, is_in_one}
use Rattle.frontier.specs.Frontiers.{frontiers_of}
use Rattle.frontier.proofs.steps.frontiers.Given as goal

abbrev pub invariant-loop-k : goal.invariant-loop-k
invariant-loop-k l = record {
  size : length l.reached ≡ length l.topology.nodes;
  frontiers : map (λ f. f.items) l.frontiers.items ≡ frontiers_of l.topology l.k;
  reached : (v : ℕ) → has l.reached v ≡ is_in_one v (frontiers_of l.topology l.k);
  below : All (λ f. All (λ v. v < length l.topology.nodes) f.items) l.frontiers.items;
}
