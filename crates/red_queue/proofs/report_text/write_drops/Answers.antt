use Rattle.std.specs.Prelude.{string_bytes}
use Rattle.red_queue.proofs.Reports.{drops-next}
use Rattle.red_queue.proofs.report_text.write_drops.Goals as goal

pub loop-packet-preserved : goal.loop-packet-preserved
loop-packet-preserved c =
    drops-next c.args.fates.now c.loop-packet.packet _ (string_bytes c.args.text.now) (string_bytes c.loop-packet.text)
    (string_bytes c.write_drop.new.text) c.loop-packet-test.true c.loop-packet.invariant c.in_ok-write_drop.ensures
