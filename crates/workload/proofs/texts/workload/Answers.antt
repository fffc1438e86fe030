use Rattle.std.proofs.Common.{◌≡◌, ◌≤◌, ◌+◌, ◌*◌, ◌∙◌, List, ℕ, length, ap, subst, sym, arith}
use Rattle.mn_base.specs.declared.limits.TheConstants.{LINK_TYPE_RAW, TOPOLOGY_BYTES_MAX}
use Rattle.pcap_io.specs.Reading.{Pcap}
use Rattle.pcap_io.specs.Writing.{pcap_text}
use Rattle.pcap_io.proofs.ReadsBack.{reads_back}
use Rattle.workload.specs.declared.shape.TheConstants.{GML_DRAWS}
use Rattle.mn_base.specs.Draws.{state_at}
use Rattle.workload.specs.Gml.{workload_gml}
use Rattle.workload.specs.Trace.{packets_by_draws, workload_trace}
use Rattle.workload.proofs.Packets.{is_trace, have_early_seconds, length-trace}
use Rattle.workload.proofs.Sizes.{gml_fits}
use Rattle.workload.proofs.texts.workload.Goals as goal

pub returns : goal.returns
returns c =
    let x : ℕ = state_at c.args.number GML_DRAWS in
    let state : c.gml_text.new.draws ≡ x =
    c.in_ok-gml.ensures.state ∙ ap (λ (s : ℕ). state_at s GML_DRAWS) c.new-draws.ensures.state in
    let gml : c.from_vec.result ≡ workload_gml c.args.number =
    rw (c.from_vec.ensures.same, c.into_bytes.ensures.value) (c.in_ok-gml.ensures.text ∙ ap workload_gml c.new-draws.ensures.state) in
    let trace : c.from_vec-2.result ≡ pcap_text (workload_trace c.args.number c.args.packets) =
    c.from_vec-2.ensures.same ∙ c.in_ok-trace.ensures.text
    ∙ ap (λ (s : ℕ). pcap_text (record { link_type = LINK_TYPE_RAW; packets = packets_by_draws s c.args.packets })) state in
    let trace_length : length c.from_vec-2.result ≡ 24 + 36 * c.args.packets =
    ap (λ (text : List ℕ). length text) trace ∙ length-trace x c.args.packets in
    record {
      gml = gml;
      trace = trace;
      reads_back = subst (λ (text : List ℕ). Pcap text (workload_trace c.args.number c.args.packets)) (sym trace)
          (reads_back (workload_trace c.args.number c.args.packets) (is_trace x c.args.packets c.requires.most)
          (have_early_seconds x c.args.packets c.requires.most));
      trace_length = trace_length;
      gml_fits = subst (λ (text : List ℕ). length text ≤ TOPOLOGY_BYTES_MAX) (sym gml) (gml_fits c.args.number);
      trace_fits = let most = c.requires.most in omega arith;
    }
