use Rattle.std.proofs.Common.{◌≡◌, ◌++◌, take}
use Rattle.std.specs.Prelude.{string_bytes}
use Rattle.report.specs.Report.{numbered_lines}
use Rattle.report.specs.Moves.{visits_line}
use Rattle.report.proofs.moves_text.write_visits_lines.Given as goal

abbrev pub invariant-loop-number : goal.invariant-loop-number
invariant-loop-number l =
    string_bytes l.text ≡ string_bytes l.initial.text ++ numbered_lines visits_line 0 (take l.number l.visits)
