use Rattle.routes.proofs.SameLatency.{same_latency}
use Rattle.routes.proofs.laws.distilling_keeps_latency.Goals as goal

pub returns : goal.returns
returns c = λ outer border arcs pipes a b by start end. same_latency outer border arcs pipes by a b start end
