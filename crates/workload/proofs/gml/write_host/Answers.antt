use Rattle.std.proofs.Common.{append_assoc}
use Rattle.workload.proofs.gml.write_host.Goals as goal

pub returns : goal.returns
returns c = simp (c.in_ok-writeln.ensures.bytes, append_assoc)
