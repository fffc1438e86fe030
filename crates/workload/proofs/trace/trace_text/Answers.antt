use Rattle.std.proofs.Common.{◌*◌, refl, arith}
use Rattle.pcap_io.specs.Writing.{header_text}
use Rattle.workload.proofs.Packets.{no_packets, next_record, time_of-zero, next_time}
use Rattle.workload.proofs.States.{no_draw, later_state}
use Rattle.workload.proofs.trace.trace_text.Goals as goal

pub loop-init : goal.loop-init
unfolding header_text
loop-init c = record {
  text_is = rw (c.in_ok-extend_from_slice.ensures.items, c.in_ok-text.ensures.items, ← no_packets c.args.draws.now) refl;
  time_is = time_of-zero c.args.draws.now;
  state_is = no_draw c.args.draws.now;
  early = omega arith;
}

pub append_record-requires : goal.append_record-requires
append_record-requires c = let early = c.loop.invariant.early in omega arith

pub loop-preserved : goal.loop-preserved
loop-preserved c =
    let below = c.loop.invariant in
    record {
      text_is = next_record below c.in_ok-gap.ensures.text;
      time_is = next_time below c.in_ok-gap.ensures.gap;
      state_is = later_state c.args.draws.now c.loop.draws _ (4 * c.loop.counter) 4 _ below.state_is c.in_ok-gap.ensures.state
          (omega arith);
      early = let early = below.early in let bound = c.in_ok-gap.ensures.bound in omega arith;
    }
