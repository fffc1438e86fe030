use Rattle.std.proofs.Common.{◌≤◌, length}
use Rattle.std.specs.List.{All}
use Rattle.routes.specs.GraphView.{IsArcAmong}
use Rattle.routes.proofs.tests.graph_of.Given as goal

abbrev pub invariant-loop-from : goal.invariant-loop-from
invariant-loop-from l = (length l.arcs.items ≤ l.from-index) × All (IsArcAmong l.nodes) l.arcs.items
