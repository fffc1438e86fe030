use Rattle.std.proofs.Common.{◌≡◌, ◌++◌, take}
use Rattle.std.specs.Prelude.{string_bytes}
use Rattle.std.specs.List.{flat_map}
use Rattle.report.specs.Report.{pipe_line, visited_pipes}
use Rattle.report.proofs.printing.write_pipes.Given as goal

abbrev pub invariant-loop-counts : goal.invariant-loop-counts
invariant-loop-counts l =
    string_bytes l.text ≡ string_bytes l.initial.text ++ flat_map pipe_line (visited_pipes (take l.counts-index l.pipe_counts))
