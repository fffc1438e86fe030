use Rattle.std.proofs.Common.{append_assoc}
use Rattle.report.proofs.cluster_text.write_core_line.Goals as goal

pub returns : goal.returns
returns c = simp (c.in_ok-writeln.ensures.bytes, c.in_ok-write.ensures.bytes, append_assoc)
