use Rattle.std.proofs.Common.{arith}
use Rattle.std.specs.Prelude.{string_bytes}
use Rattle.workload.proofs.Lines.{no_access, next_access}
use Rattle.workload.proofs.States.{no_draw, later_state}
use Rattle.workload.proofs.gml.write_access.Goals as goal

pub loop-host-init : goal.loop-host-init
loop-host-init c = record { text = no_access c.args.draws.now (string_bytes c.args.text.now); state = no_draw c.args.draws.now }

pub loop-host-preserved : goal.loop-host-preserved
loop-host-preserved c = record {
  text = next_access c.args.draws.now c.loop-host.draws c.loop-host.host (string_bytes c.args.text.now) (string_bytes c.loop-host.text) _
      c.loop-host.invariant.state c.loop-host.invariant.text c.in_ok-write_host_edge.ensures.text;
  state = later_state c.args.draws.now c.loop-host.draws _
      (c.loop-host.host) 1 _ c.loop-host.invariant.state c.in_ok-write_host_edge.ensures.state (omega arith);
}
