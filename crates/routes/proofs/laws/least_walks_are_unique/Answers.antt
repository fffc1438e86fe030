use Rattle.routes.proofs.OneLeastWalk.{one_least_walk}
use Rattle.routes.proofs.laws.least_walks_are_unique.Goals as goal

pub returns : goal.returns
returns c = one_least_walk
