-- The trace of packets that left is within the limits of a trace.
use Rattle.std.proofs.Common.{◌≡◌, ◌≢◌, ℕ, ◌<◌, ◌≤◌, List, length, map, Option, Some, None, IsSome, IfSome, All, AllPairs, arith}
use Rattle.std.specs.Option.{option_map_or}
use Rattle.std.proofs.lemmas.Bool.{false≢true}
use Rattle.std.proofs.lemmas.List.{length-map}
use Rattle.std.proofs.lemmas.List.Elements.{All-map}
use Rattle.mn_base.specs.Times.{output_time}
use Rattle.mn_base.specs.declared.limits.TheConstants.{PACKETS_MAX, PACKET_BYTES_MAX, RECORD_NS_END}
use Rattle.pcap_io.specs.declared.packet.Packet.{Packet}
use Rattle.pcap_io.specs.Capture.{IsPacket, IsTrace}
use Rattle.journal.specs.declared.setup.PacketPlan.{PacketPlan}
use Rattle.journal.specs.SetupView.{SetupView, packet_of, len_of}
use Rattle.journal.specs.IsSetup.{IsSetup}
use Rattle.settle.specs.declared.outcome.Leaving.{Leaving}
use Rattle.report.specs.Traces.{packet_left}
use Rattle.report.proofs.Numbers.{found, length-le-different}

-- the number of a packet of the setup is below the limit
number_below : (S : SetupView) (n : ℕ) → IsSetup S → IsSome (packet_of S n) → n < PACKETS_MAX
number_below S n setup =
    go (packet_of S n) (found (λ (p : PacketPlan). p.number) (λ p. p.number < PACKETS_MAX) S.packets n setup.numbers_most)
  where
    go : (o : Option PacketPlan) → IfSome o (λ p. (p.number < PACKETS_MAX) × (p.number ≡ n)) → IsSome o → n < PACKETS_MAX
    go None facts some = absurd (false≢true some)
    go (Some p) facts some = omega (arith, facts.0, facts.1)

-- the original length of a packet is within the limit
len_within : (S : SetupView) (n : ℕ) → IsSetup S → len_of S n ≤ PACKET_BYTES_MAX
len_within S n setup =
    go (packet_of S n) (found (λ (p : PacketPlan). p.number) (λ p. p.len ≤ PACKET_BYTES_MAX) S.packets n setup.lens_most)
  where
    go : (o : Option PacketPlan) → IfSome o (λ p. (p.len ≤ PACKET_BYTES_MAX) × (p.number ≡ n)) → option_map_or (λ p. p.len) o 0 ≤ PACKET_BYTES_MAX
    go None facts = omega arith
    go (Some p) facts = facts.0

-- packets that left, each of the setup and no two with one number, make a trace
pub IsTrace-left : (S : SetupView) (leaving : List Leaving) {link_type : ℕ} {packets : List Packet}
    → link_type ≡ S.link_type → packets ≡ map (packet_left S) leaving → IsSetup S
    → All (λ left. IsSome (packet_of S left.packet)) leaving → AllPairs (λ a b. a.packet ≢ b.packet) leaving
    → All (λ left. length left.bytes ≤ PACKET_BYTES_MAX) leaving
    → All (λ left. output_time S.base_ns S.tick_ns left.tick < RECORD_NS_END) leaving
    → IsTrace (record { link_type = link_type; packets = packets })
IsTrace-left S leaving {link_type} {packets} link_same packets_same setup of_setup different lengths times =
    let few : length leaving ≤ PACKETS_MAX =
    length-le-different (λ (left : Leaving). left.packet) leaving PACKETS_MAX different
    (λ i d within. number_below S _ setup (of_setup i d within)) in
    record {
      link_type = rw link_same setup.link_type;
      count = rw packets_same (omega (arith, length-map leaving (packet_left S)));
      packets =
          rw packets_same
          (All-map IsPacket (packet_left S) leaving
          (λ i d within. record {
            time = times i d within;
            original = len_within S _ setup;
            captured = lengths i d within;
          }));
    }
