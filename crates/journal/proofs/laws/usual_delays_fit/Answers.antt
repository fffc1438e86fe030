use Rattle.journal.proofs.UsualDelays.{usual_delays_fit}
use Rattle.journal.proofs.laws.usual_delays_fit.Goals as goal

pub returns : goal.returns
returns c = usual_delays_fit
