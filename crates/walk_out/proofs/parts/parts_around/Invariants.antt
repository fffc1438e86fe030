use Rattle.std.proofs.Common.{◌≡◌, not, filter}
use Rattle.std.specs.List.{range_with_len}
use Rattle.frontier.specs.NodeSets.{has}
use Rattle.walk_out.specs.Parts.{link_at, is_outer_link}
use Rattle.walk_out.proofs.parts.parts_around.Given as goal

abbrev pub invariant-loop-number : goal.invariant-loop-number
invariant-loop-number l = record {
  kept : l.kept.items ≡ filter (λ e. is_outer_link (has l.outer) (link_at l.links e)) (range_with_len 0 l.number);
  middle : l.middle.items ≡ filter (λ e. not (is_outer_link (has l.outer) (link_at l.links e))) (range_with_len 0 l.number);
}
