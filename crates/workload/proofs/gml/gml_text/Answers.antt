use Rattle.std.proofs.Common.{◌≡◌, ◌+◌, refl, append_assoc}
use Rattle.workload.specs.declared.shape.TheConstants.{RING_DRAWS, CHORD_DRAWS, GML_DRAWS, HOSTS}
use Rattle.mn_base.specs.Draws.{state_at}
use Rattle.workload.specs.Gml.{workload_gml}
use Rattle.workload.proofs.States.{later_state}
use Rattle.workload.proofs.gml.gml_text.Goals as goal

pub returns : goal.returns
unfolding workload_gml
returns c =
    let x = c.args.draws.now in
    let ring : c.write_ring.new.draws ≡ state_at x RING_DRAWS = c.in_ok-write_ring.ensures.state in
    let chords : c.write_chords.new.draws ≡ state_at x (RING_DRAWS + CHORD_DRAWS) =
    later_state x c.write_ring.new.draws c.write_chords.new.draws RING_DRAWS CHORD_DRAWS (RING_DRAWS + CHORD_DRAWS) ring
    c.in_ok-write_chords.ensures.state refl in
    let access : c.write_access.new.draws ≡ state_at x GML_DRAWS =
    later_state x c.write_chords.new.draws c.write_access.new.draws (RING_DRAWS + CHORD_DRAWS) HOSTS GML_DRAWS chords
    c.in_ok-write_access.ensures.state refl in
    record {
      text = simp (
        c.in_ok-writeln-2.ensures.bytes,
        c.in_ok-write_access.ensures.text,
        c.in_ok-write_chords.ensures.text,
        c.in_ok-write_ring.ensures.text,
        c.in_ok-write_hosts.ensures,
        c.in_ok-write_routers.ensures,
        c.in_ok-writeln.ensures.bytes,
        c.new-text.ensures.bytes,
        chords,
        ring,
        append_assoc,
      );
      state = access;
    }
