use Rattle.std.proofs.Common.{◌≡◌, ◌++◌, take}
use Rattle.std.specs.Prelude.{string_bytes}
use Rattle.report.specs.Report.{numbered_lines}
use Rattle.report.specs.Cluster.{core_line}
use Rattle.report.proofs.cluster_text.write_core_lines.Given as goal

abbrev pub invariant-loop-number : goal.invariant-loop-number
invariant-loop-number l =
    string_bytes l.text ≡ string_bytes l.initial.text ++ numbered_lines core_line 0 (take l.number l.cores)
