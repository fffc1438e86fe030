-- Cores don't show in the outputs.
use Rattle.std.proofs.Common.{◌≡◌, ℕ, ◌+◌, ◌*◌, List, [], ◌∷◌, length, map, refl, sym, ap, ◌∙◌}
use Rattle.mn_base.specs.declared.causes.Unbound.{Unbound}
use Rattle.mn_base.specs.Times.{output_time}
use Rattle.pcap_io.specs.declared.packet.Packet.{Packet}
use Rattle.parcel.specs.declared.counts.PipeCounts.{PipeCounts}
use Rattle.journal.specs.SetupView.{SetupView, len_of}
use Rattle.journal.proofs.Bare.{len-bare}
use Rattle.settle.specs.declared.outcome.DropLine.{DropLine}
use Rattle.settle.specs.declared.outcome.Leaving.{Leaving}
use Rattle.settle.specs.OutcomeView.{OutcomeView}
use Rattle.settle.proofs.NoCores.{outcomes_read_no_core}
use Rattle.settle.specs.Laws.{IsSameOutcome}
use Rattle.report.specs.Report.{report_lines, report_text}
use Rattle.report.specs.Traces.{packet_left, trace_of}
use Rattle.report.specs.Laws.{DifferInCores, OutputsReadNoCore}

-- outcomes with the same lists have one report
report_text-same : (o p : OutcomeView) (unbounds : List (ℕ × Unbound)) → IsSameOutcome o p → report_text o unbounds ≡ report_text p unbounds
report_text-same o p unbounds same =
    ap (λ (ls : List Leaving). report_lines (length ls) o.dropped o.pipe_counts unbounds) same.leaving
    ∙ ap (λ (cs : List PipeCounts). report_lines (length p.leaving) o.dropped cs unbounds) same.pipe_counts
    ∙ ap (λ (ds : List DropLine). report_lines (length p.leaving) ds p.pipe_counts unbounds) same.dropped

module _ (S R : SetupView) (differ : DifferInCores S R) where
  packet_left-same : (left : Leaving) → packet_left S left ≡ packet_left R left
  packet_left-same left =
      let len : len_of S left.packet ≡ len_of R left.packet =
      sym (len-bare S left.packet) ∙ ap (λ (s : SetupView). len_of s left.packet) differ.runs ∙ len-bare R left.packet in
      let tick_ns : S.tick_ns ≡ R.tick_ns = ap (λ (s : SetupView). s.tick_ns) differ.runs in
      let time : output_time S.base_ns S.tick_ns left.tick ≡ output_time R.base_ns R.tick_ns left.tick =
      ap (λ n. n + left.tick * S.tick_ns) differ.base_ns ∙ ap (λ n. R.base_ns + left.tick * n) tick_ns in
      ap (λ n. record { time_ns = n; original = len_of S left.packet; bytes = left.bytes }) time
      ∙ ap (λ n. record { time_ns = output_time R.base_ns R.tick_ns left.tick; original = n; bytes = left.bytes }) len

  packets-same : (ls : List Leaving) → map (packet_left S) ls ≡ map (packet_left R) ls
  packets-same [] = refl
  packets-same (l ∷ ls) = ap (λ p. p ∷ map (packet_left S) ls) (packet_left-same l) ∙ ap (λ ps. packet_left R l ∷ ps) (packets-same ls)

  trace_of-same : (ls ms : List Leaving) → ls ≡ ms → trace_of S ls ≡ trace_of R ms
  trace_of-same ls ms same =
      ap (λ (n : ℕ). record { link_type = n; packets = map (packet_left S) ls }) differ.link_type
      ∙ ap (λ (ps : List Packet). record { link_type = R.link_type; packets = ps }) (packets-same ls)
      ∙ ap (trace_of R) same

pub outputs_read_no_core : OutputsReadNoCore
outputs_read_no_core S R bytes o p differ is also =
    let same = outcomes_read_no_core S R bytes o p differ.runs is also in
    record {
      trace = trace_of-same S R differ o.leaving p.leaving same.leaving;
      report = λ unbounds. report_text-same o p unbounds same;
    }
