use Rattle.routes.proofs.Way.{IsOnWay}
use Rattle.routes.proofs.routes.Routes.walk.Given as goal

abbrev pub invariant-loop-step : goal.invariant-loop-step
invariant-loop-step l =
    IsOnWay l.self-inside.graph.now.arcs l.self-inside.labels.items l.source l._step-end l.node l._step l.walk.items
