use Rattle.std.proofs.Common.{◌≡◌, ◌++◌}
use Rattle.std.specs.Prelude.{string_bytes}
use Rattle.workload.specs.Gml.{router_lines}
use Rattle.workload.proofs.gml.write_routers.Given as goal

abbrev pub invariant-loop-router : goal.invariant-loop-router
invariant-loop-router l = string_bytes l.text ≡ string_bytes l.initial.text ++ router_lines l.router
