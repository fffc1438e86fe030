use Rattle.std.proofs.Common.{◌≤◌, length}
use Rattle.std.specs.List.{All}
use Rattle.routes.specs.GraphView.{IsArcAmong}
use Rattle.distill.proofs.tests.route_along.Given as goal

abbrev pub invariant-loop-pipe : goal.invariant-loop-pipe
invariant-loop-pipe l = (length l.arcs.items ≤ l.pipe-index) × All (IsArcAmong 9) l.arcs.items
