use Rattle.std.proofs.Common.{◌≡◌, ◌++◌, take}
use Rattle.std.specs.Prelude.{string_bytes}
use Rattle.report.specs.Report.{numbered_lines}
use Rattle.report.specs.Pipes.{distilled_line}
use Rattle.report.proofs.pipes_text.write_distilled_lines.Given as goal

abbrev pub invariant-loop-number : goal.invariant-loop-number
invariant-loop-number l =
    string_bytes l.text ≡ string_bytes l.initial.text ++ numbered_lines (distilled_line l.nodes) 0 (take l.number l.pipes)
