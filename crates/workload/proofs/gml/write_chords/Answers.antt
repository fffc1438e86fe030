use Rattle.std.proofs.Common.{◌*◌, arith}
use Rattle.std.specs.Prelude.{string_bytes}
use Rattle.workload.proofs.Lines.{no_chords, next_chord}
use Rattle.workload.proofs.States.{no_draw, later_state}
use Rattle.workload.proofs.gml.write_chords.Goals as goal

pub loop-router-init : goal.loop-router-init
loop-router-init c = record { text = no_chords c.args.draws.now (string_bytes c.args.text.now); state = no_draw c.args.draws.now }

pub loop-router-preserved : goal.loop-router-preserved
loop-router-preserved c = record {
  text = next_chord c.args.draws.now c.loop-router.draws c.loop-router.router (string_bytes c.args.text.now)
      (string_bytes c.loop-router.text) _
      c.loop-router.invariant.state c.loop-router.invariant.text c.in_ok-write_trunk.ensures.text;
  state = later_state c.args.draws.now c.loop-router.draws _
      (3 * c.loop-router.router) 3 _ c.loop-router.invariant.state c.in_ok-write_trunk.ensures.state (omega arith);
}
