use Rattle.std.proofs.Common.{◌≡◌, [], ap}
use Rattle.pcap_io.specs.Capture.{Capture}
use Rattle.pcapng_in.specs.Answers.{seen}
use Rattle.pcapng_in.proofs.Kept.{what_is_read_keeps}
use Rattle.pcapng_in.proofs.reading.read_pcapng.Goals as goal

-- what stays true from block to block makes a trace

pub new-requires : goal.new-requires
new-requires c =
    let state = seen c.in_ok-link_type.field-0 in
    let kept = what_is_read_keeps c.args.text.now state [] c.in_ok-link_type.ensures.found in
    record { link_type = rw c.in-Some.is at kept.link_type; count = kept.count; packets = kept.packets }

pub returns-in-Some-clause-times : goal.returns-in-Some-clause-times
returns-in-Some-clause-times c =
    let state = seen c.in_ok-link_type.field-0 in
    let kept = what_is_read_keeps c.args.text.now state [] c.in_ok-link_type.ensures.found in
    let same : c.new.result.packets ≡ state.packets = ap (λ (trace : Capture). trace.packets) c.new.ensures in
    rw same kept.times
