use Rattle.distill.proofs.LatencyModes.{latency_stays}
use Rattle.distill.proofs.laws.latency_stays.Goals as goal

pub returns : goal.returns
returns c = latency_stays
