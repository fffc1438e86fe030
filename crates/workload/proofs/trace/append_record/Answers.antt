use Rattle.std.proofs.Common.{◌≡◌, ◌++◌, ◌∙◌, ap, rules}
use Rattle.mn_base.specs.Draws.{state_at, draw_at}
use Rattle.workload.specs.declared.shape.TheConstants.{HOSTS}
use Rattle.pcap_io.specs.Writing.{record_text}
use Rattle.workload.proofs.Packets.{the_packet}
use Rattle.workload.proofs.States.{one_draw, next_state, the_draw}
use Rattle.workload.proofs.trace.append_record.Goals as goal

pub returns : goal.returns
returns c =
    let x = c.args.draws.now in
    let first : c.draw-source.new.self ≡ state_at x 1 = one_draw x c.draw-source.new.self c.draw-source.ensures.state in
    let second : c.draw-destination.new.self ≡ state_at x 2 =
    next_state x c.draw-source.new.self c.draw-destination.new.self 1 first c.draw-destination.ensures.state in
    let third : c.draw-len.new.self ≡ state_at x 3 =
    next_state x c.draw-destination.new.self c.draw-len.new.self 2 second c.draw-len.ensures.state in
    let fourth : c.draw-gap.new.self ≡ state_at x 4 = next_state x c.draw-len.new.self c.draw-gap.new.self 3 third
    c.draw-gap.ensures.state in
    let source = the_draw x c.draw-source.new.self 0 HOSTS c.draw-source.result first c.draw-source.ensures.value in
    let destination = the_draw x c.draw-destination.new.self 1 HOSTS c.draw-destination.result second c.draw-destination.ensures.value in
    let len = the_draw x c.draw-len.new.self 2 1441 c.draw-len.result third c.draw-len.ensures.value in
    let gap : c.draw-gap.result ≡ draw_at x 3 200000 = the_draw x c.draw-gap.new.self 3 200000 c.draw-gap.result fourth
    c.draw-gap.ensures.value in
    let packet = the_packet x c.args.time_ns c.draw-source.result c.draw-destination.result c.draw-len.result source destination len in
    record {
      gap = c.from.ensures ∙ gap;
      bound = search rules;
      text = c.in_ok-extend_from_slice.ensures.items ∙ ap (λ bytes. c.args.text.now.items ++ bytes) (c.record_bytes.ensures
          ∙ ap record_text packet);
      state = fourth;
    }
