use Rattle.std.proofs.Common.{◌≡◌, ◌-◌, length}
use Rattle.routes.specs.Search.{settled_count}
use Rattle.routes.specs.Searching.{IsAtRest}
use Rattle.routes.proofs.search.Search.run.Given as goal

abbrev pub invariant-loop-node : goal.invariant-loop-node
invariant-loop-node l = record {
  destination : l.self.destination ≡ l.initial.self.destination;
  rest : IsAtRest l.incoming l.self;
}

-- the nodes that aren't settled
abbrev pub decreases-loop-node : goal.decreases-loop-node
decreases-loop-node l = length l.self.settled.items - settled_count l.self.settled.items
