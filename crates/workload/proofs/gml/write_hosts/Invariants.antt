use Rattle.std.proofs.Common.{◌≡◌, ◌++◌}
use Rattle.std.specs.Prelude.{string_bytes}
use Rattle.workload.specs.Gml.{host_lines}
use Rattle.workload.proofs.gml.write_hosts.Given as goal

abbrev pub invariant-loop-host : goal.invariant-loop-host
invariant-loop-host l = string_bytes l.text ≡ string_bytes l.initial.text ++ host_lines l.host
