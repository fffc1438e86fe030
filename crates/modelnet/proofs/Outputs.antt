-- The packets that left can be written as a trace.
use Rattle.std.proofs.Common.{◌≡◌, ◌≢◌, ◌≤◌, ◌<◌, List, length, map, All, AllPairs, IsSome, sym, ◌∙◌, ap, ℕ}
use Rattle.std.proofs.lemmas.List.Elements.{All-map}
use Rattle.mn_base.proofs.Members.{All-Among}
use Rattle.mn_base.specs.Times.{output_time}
use Rattle.mn_base.specs.declared.limits.TheConstants.{PACKET_BYTES_MAX, RECORD_NS_END}
use Rattle.pcap_io.specs.Capture.{Capture, IsTrace}
use Rattle.journal.specs.declared.visit.Visit.{Visit}
use Rattle.journal.specs.SetupView.{SetupView, packet_of}
use Rattle.journal.specs.IsSetup.{IsSetup}
use Rattle.journal.specs.Journal.{journal_of}
use Rattle.journal.specs.Fates.{fate_after}
use Rattle.journal.specs.Laws.{OutputsFit}
use Rattle.settle.specs.declared.outcome.Leaving.{Leaving}
use Rattle.settle.specs.OutcomeView.{OutcomeView}
use Rattle.settle.specs.IsOutcome.{IsOutcome}
use Rattle.settle.proofs.Leavings.{left-known, left-bytes, left-ticks, left-differ}

-- what `out_trace` asks of the packets that left
pub record CanBeWritten (S : SetupView) (leaving : List Leaving) : Type 0 where
  pub of_setup : All (λ left. IsSome (packet_of S left.packet)) leaving
  pub different : AllPairs (λ a b. a.packet ≢ b.packet) leaving
  pub lengths : All (λ left. length left.bytes ≤ PACKET_BYTES_MAX) leaving
  pub times : All (λ left. output_time S.base_ns S.tick_ns left.tick < RECORD_NS_END) leaving

-- no packet of a trace is longer than a packet may be
pub packets_are_short : (trace : Capture) → IsTrace trace → All (λ b. length b ≤ PACKET_BYTES_MAX) (map (λ p. p.bytes) trace.packets)
packets_are_short trace t =
    All-map (λ b. length b ≤ PACKET_BYTES_MAX) (λ p. p.bytes) trace.packets (λ i d below. (t.packets i d below).captured)

-- what a setup keeps and short packets are all that is asked
pub can_be_written : (S : SetupView) (visits : List Visit) (bytes : List (List ℕ)) (o : OutcomeView) → IsSetup S
    → OutputsFit S → visits ≡ journal_of S → All (λ b. length b ≤ PACKET_BYTES_MAX) bytes → IsOutcome S visits bytes o
    → CanBeWritten S o.leaving
can_be_written S visits bytes o setup fit same short is = record {
  of_setup = left-known S visits bytes o is;
  different = left-differ S visits bytes o setup is;
  lengths = left-bytes (λ b. length b ≤ PACKET_BYTES_MAX) S visits bytes o is
      (λ b listed. All-Among (λ b. length b ≤ PACKET_BYTES_MAX) b bytes short listed);
  times = left-ticks (λ tick. output_time S.base_ns S.tick_ns tick < RECORD_NS_END) S visits bytes o is
      (λ p tick among left. fit p tick among (ap (λ J. fate_after J p) (sym same) ∙ left));
}
