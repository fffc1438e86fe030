use Rattle.std.proofs.Common.{◌≡◌, ◌<◌, ◌+◌, suc, length, get_or, set, ap, ◌∙◌, arith}
use Rattle.report.proofs.InPlace.{timed_to, timed_more, timed_all}
use Rattle.report.proofs.leaving.set_times.Goals as goal

pub loop-index-preserved : goal.loop-index-preserved
loop-index-preserved c =
    let S = c.args.setup.now in
    let fates = c.args.fates.now in
    let packets = c.args.packets.now.items in
    let i = c.loop-index.index in
    let packet = c.index_mut.result.now in
    let within : i < length packets = omega (arith, c.loop-index-test.true, c.len-index-end.ensures) in
    let next : suc i ≡ i + 1 = omega arith in
    ap (λ ps. set ps i (record packet { time_ns = c.time_ns_of.result })) c.loop-index.invariant
    ∙ timed_more S i fates packets c.time_ns_of.result _ packet (omega (arith, within, c.requires.as_many)) within
    c.time_ns_of.ensures (c.index_mut.ensures.value ∙ ap (λ ps. get_or ps i packet) c.loop-index.invariant)
    ∙ ap (λ n. timed_to S n fates packets) next

pub returns : goal.returns
returns c =
    c.loop-index.invariant
    ∙ timed_all c.args.setup.now c.loop-index.index c.args.fates.now c.args.packets.now.items c.requires.as_many
    (omega (arith, c.loop-index-test.false, c.len-index-end.ensures))
