use Rattle.std.proofs.Common.{◌≡◌, ◌++◌}
use Rattle.std.specs.Prelude.{string_bytes}
use Rattle.mn_base.specs.Draws.{state_at}
use Rattle.workload.specs.Gml.{access_lines}
use Rattle.workload.proofs.gml.write_access.Given as goal

abbrev pub invariant-loop-host : goal.invariant-loop-host
invariant-loop-host l = record {
  text : string_bytes l.text ≡ string_bytes l.initial.text ++ access_lines l.initial.draws l.host;
  state : l.draws ≡ state_at l.initial.draws (l.host);
}
