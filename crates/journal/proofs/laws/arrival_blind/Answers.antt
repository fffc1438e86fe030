use Rattle.journal.proofs.Blind.{arrival_blind}
use Rattle.journal.proofs.laws.arrival_blind.Goals as goal

pub returns : goal.returns
returns c = arrival_blind
