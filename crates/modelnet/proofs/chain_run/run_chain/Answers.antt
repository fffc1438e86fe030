use Rattle.std.proofs.Common.{◌≡◌, ◌+◌, ℕ, List, [], ◌∷◌, length, map, refl, sym, ◌∙◌, ap, subst}
use Rattle.std.specs.List.{enumerate_from, range_with_len}
use Rattle.std.specs.List.Sorted.{IsPermutation}
use Rattle.std.proofs.lemmas.List.{length-map}
use Rattle.pcap_io.specs.declared.packet.Packet.{Packet}
use Rattle.pcap_io.specs.Capture.{Capture, trace_base}
use Rattle.pcap_io.specs.Writing.{pcap_text}
use Rattle.journal.specs.Journal.{journal_of}
use Rattle.parcel.specs.Counts.{counts_of}
use Rattle.settle.specs.IsOutcome.{leavings, drop_lines}
use Rattle.report.specs.Report.{report_lines}
use Rattle.report.specs.Traces.{packet_left}
use Rattle.report.proofs.PacketsLeft.{outcome_left, IsOutcome-left}
use Rattle.modelnet.specs.Chain.{plan_of}
use Rattle.modelnet.proofs.ChainSetup.{length-plans}
use Rattle.modelnet.proofs.chain_run.run_chain.Goals as goal

-- a plan has the original length of its packet
lens-plans : (base tick_ns n : ℕ) (packets : List Packet)
    → map (λ p. p.original) packets ≡ map (λ p. p.len) (map (plan_of base tick_ns) (enumerate_from n packets))
lens-plans base tick_ns n [] = refl
lens-plans base tick_ns n (p ∷ packets) = ap (λ lens. p.original ∷ lens) (lens-plans base tick_ns (n + 1) packets)

pub leaving_trace-requires-clause-originals : goal.leaving_trace-requires-clause-originals
leaving_trace-requires-clause-originals c =
    ap (λ ps. map (λ p. p.original) ps) c.into_packets.ensures.value
    ∙ lens-plans (trace_base c.args.trace) c.args.order.now.tick_ns 0 c.args.trace.packets
    ∙ sym (ap (λ ps. map (λ p. p.len) ps) c.in_ok-setup.ensures.packets)

-- the outcome is that of the packets that left
pub returns-clause-run : goal.returns-clause-run
returns-clause-run c =
    let S = c.in_ok-setup.setup in
    let packets = c.args.trace.packets in
    let made = c.in_ok-out.ensures in
    let left = made.left in
    let as_many =
    length-map packets (λ p. p.bytes)
    ∙ sym (ap (λ ps. length ps) c.in_ok-setup.ensures.packets ∙ length-plans (trace_base c.args.trace) c.args.order.now.tick_ns packets) in
    let all =
    subst (λ bytes. IsPermutation (leavings S (journal_of S) bytes) left)
    (ap (λ ps. map (λ p. p.bytes) ps) c.into_packets.ensures.value) made.all in
    let count =
    ap (λ ps. length ps) c.packets.ensures.value ∙ ap (λ (t : Capture). length t.packets) made.trace_is ∙ length-map left (packet_left S) in
    record {
      setup = S;
      outcome = outcome_left S left;
      setup_is = c.in_ok-setup.ensures;
      outcome_is = IsOutcome-left S (map (λ p. p.bytes) packets) left as_many all made.in_order;
      out_is = ap (λ t. pcap_text t) made.trace_is;
      report_is =
          c.in_ok-report.ensures
          ∙ ap (λ n. report_lines n (drop_lines S (journal_of S)) (map (counts_of (journal_of S)) (range_with_len 0 (length S.pipes))) []) count;
    }
