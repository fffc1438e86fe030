use Rattle.std.proofs.Common.{append_assoc}
use Rattle.red_queue.proofs.report_text.write_packets.Goals as goal

pub returns : goal.returns
returns c =
    simp (c.in_ok-writeln.ensures.bytes, c.in_ok-write.ensures.bytes, c.count_left-left.ensures.value, append_assoc)
