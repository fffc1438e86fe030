-- Routes as contracts see them.
use Rattle.std.specs.Prelude.{ℕ}
use Rattle.routes.specs.GraphView.{GraphView}

-- a graph and the node that walks lead to, which determine every answer, since least walks are unique
pub record RoutesView : Type 0 where
  pub graph : GraphView
  pub destination : ℕ
