use Rattle.workers.proofs.GoingOn.{goes-by_turn, works-done}
use Rattle.workers.proofs.station.Station.turn.Goals as goal

pub returns-clause-goes : goal.returns-clause-goes
returns-clause-goes c = goes-by_turn _ _ c.turn.ensures.rises c.turn.ensures.stands (λ f. (c.turn.ensures.failed_before f).0)

pub returns-clause-works : goal.returns-clause-works
returns-clause-works c = works-done _ _ c.turn.ensures.no_memory
