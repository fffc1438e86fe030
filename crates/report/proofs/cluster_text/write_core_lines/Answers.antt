use Rattle.std.specs.Prelude.{string_bytes}
use Rattle.report.specs.Cluster.{core_line}
use Rattle.report.proofs.NumberedLines.{lines_next}
use Rattle.report.proofs.cluster_text.write_core_lines.Goals as goal

pub loop-number-preserved : goal.loop-number-preserved
loop-number-preserved c =
    lines_next core_line c.args.cores.now c.loop-number.number _
    (string_bytes c.args.text.now) (string_bytes c.loop-number.text) _ c.loop-number-test.true c.loop-number.invariant
    c.in_ok-write_core_line.ensures
