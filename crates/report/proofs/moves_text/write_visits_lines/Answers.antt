use Rattle.std.specs.Prelude.{string_bytes}
use Rattle.report.specs.Moves.{visits_line}
use Rattle.report.proofs.NumberedLines.{lines_next}
use Rattle.report.proofs.moves_text.write_visits_lines.Goals as goal

pub loop-number-preserved : goal.loop-number-preserved
loop-number-preserved c =
    lines_next visits_line c.args.visits.now c.loop-number.number _
    (string_bytes c.args.text.now) (string_bytes c.loop-number.text) _ c.loop-number-test.true c.loop-number.invariant
    c.in_ok-write_visits_line.ensures
