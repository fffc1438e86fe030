use Rattle.std.proofs.Common.{◌≡◌, ◌*◌, ◌++◌}
use Rattle.std.specs.Prelude.{string_bytes}
use Rattle.mn_base.specs.Draws.{state_at}
use Rattle.workload.specs.Gml.{ring_lines}
use Rattle.workload.proofs.gml.write_ring.Given as goal

abbrev pub invariant-loop-router : goal.invariant-loop-router
invariant-loop-router l = record {
  text : string_bytes l.text ≡ string_bytes l.initial.text ++ ring_lines l.initial.draws l.router;
  state : l.draws ≡ state_at l.initial.draws (3 * l.router);
}
