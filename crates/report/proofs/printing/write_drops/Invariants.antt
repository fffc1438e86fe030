use Rattle.std.proofs.Common.{◌≡◌, ◌++◌, take}
use Rattle.std.specs.Prelude.{string_bytes}
use Rattle.std.specs.List.{flat_map}
use Rattle.report.specs.Report.{drop_line}
use Rattle.report.proofs.printing.write_drops.Given as goal

abbrev pub invariant-loop-line : goal.invariant-loop-line
invariant-loop-line l = string_bytes l.text ≡ string_bytes l.initial.text ++ flat_map drop_line (take l.line-index l.dropped)
