use Rattle.std.proofs.Common.{arith}
use Rattle.pcap_io.proofs.TimeBase.{fold-min-more, All-min-more}
use Rattle.pcap_io.proofs.trace.Trace.time_base.Goals as goal

pub others-preserved : goal.others-preserved
others-preserved c =
    let first = c.in-Some.first.now.time_ns in
    let packets = c.in-Some.others.now in
    let i = c.others.packet-index in
    let packet = c.packet-item.result in
    let before = c.others.invariant in
    let lesser = c.min-least.ensures in
    record {
      value = fold-min-more (λ p. p.time_ns) first packets i packet c.others-test.true before.value c.packet-item.is lesser;
      first = omega (arith, lesser, before.first);
      others = All-min-more (λ p. p.time_ns) packets i packet c.others-test.true before.others c.packet-item.is lesser;
    }
