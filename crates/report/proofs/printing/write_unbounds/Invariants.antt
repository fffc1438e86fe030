use Rattle.std.proofs.Common.{◌≡◌, ◌++◌, take}
use Rattle.std.specs.Prelude.{string_bytes}
use Rattle.std.specs.List.{flat_map}
use Rattle.report.specs.Report.{unbound_line}
use Rattle.report.proofs.printing.write_unbounds.Given as goal

abbrev pub invariant-loop-packet : goal.invariant-loop-packet
invariant-loop-packet l = string_bytes l.text ≡ string_bytes l.initial.text ++ flat_map unbound_line (take l.packet-index l.unbounds)
