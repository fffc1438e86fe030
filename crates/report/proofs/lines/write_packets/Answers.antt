use Rattle.std.proofs.Common.{append_assoc}
use Rattle.report.proofs.lines.write_packets.Goals as goal

pub returns : goal.returns
returns c = simp (c.in_ok-writeln.ensures.bytes, c.in_ok-write.ensures.bytes, append_assoc)
