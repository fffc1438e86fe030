-- The packets that leave, as an outcome has them, and what a trace asks of them.
use Rattle.std.proofs.Common.{◌≡◌, ◌≢◌, ℕ, ◌<◌, ◌≤◌, List, [], length, map, IsSome, All, AllPairs, refl, sym, subst}
use Rattle.std.proofs.lemmas.List.Elements.{All-map}
use Rattle.std.specs.List.{range_with_len}
use Rattle.std.specs.List.Sorted.{IsPermutation}
use Rattle.mn_base.proofs.Members.{All-Among, Among-from-map}
use Rattle.mn_base.specs.Among.{Among}
use Rattle.mn_base.specs.Times.{output_time}
use Rattle.mn_base.specs.declared.limits.TheConstants.{PACKET_BYTES_MAX, RECORD_NS_END}
use Rattle.pcap_io.specs.declared.packet.Packet.{Packet}
use Rattle.journal.specs.declared.setup.PacketPlan.{PacketPlan}
use Rattle.journal.specs.declared.fate.Fate.{Fate}
use Rattle.journal.specs.declared.fate.Fate.TheVariants.{Left, Dropped}
use Rattle.journal.specs.SetupView.{SetupView, packet_of}
use Rattle.journal.specs.IsSetup.{IsSetup}
use Rattle.journal.specs.Journal.{journal_of}
use Rattle.journal.specs.Fates.{fate_of}
use Rattle.journal.specs.Laws.{OutputsFit}
use Rattle.parcel.specs.Counts.{counts_of}
use Rattle.settle.specs.declared.outcome.Leaving.{Leaving}
use Rattle.settle.specs.OutcomeView.{OutcomeView}
use Rattle.settle.specs.IsOutcome.{leavings, drop_lines, LeavesBefore, IsOutcome}
use Rattle.settle.proofs.Joined.{All-from_each}
use Rattle.settle.proofs.Leavings.{left-known, left-bytes, left-ticks, left-differ}
use Rattle.report.specs.Leaving.{FitsRecord}

-- the outcome of a run without cores, of whose packets these left
abbrev pub outcome_left : SetupView → List Leaving → OutcomeView
outcome_left S left = record {
  leaving = left;
  dropped = drop_lines S (journal_of S);
  pipe_counts = map (counts_of (journal_of S)) (range_with_len 0 (length S.pipes));
  cores = [];
}

pub IsOutcome-left : (S : SetupView) (bytes : List (List ℕ)) (left : List Leaving) → length bytes ≡ length S.packets
    → IsPermutation (leavings S (journal_of S) bytes) left → AllPairs LeavesBefore left
    → IsOutcome S (journal_of S) bytes (outcome_left S left)
IsOutcome-left S bytes left as_many all ordered = record {
  each_has_bytes = as_many;
  leaving = all;
  in_order = ordered;
  dropped = refl;
  pipe_counts = refl;
}

-- what is asked of the packets of a trace that leave
pub record CanLeave (S : SetupView) (left : List Leaving) : Type 0 where
  pub of_setup : All (λ left. IsSome (packet_of S left.packet)) left
  pub different : AllPairs (λ a b. a.packet ≢ b.packet) left
  pub lengths : All (λ left. length left.bytes ≤ PACKET_BYTES_MAX) left
  pub times : All (λ left. output_time S.base_ns S.tick_ns left.tick < RECORD_NS_END) left

pub can_leave : (S : SetupView) (packets : List Packet) (o : OutcomeView) → IsSetup S → OutputsFit S
    → All (λ p. length p.bytes ≤ PACKET_BYTES_MAX) packets
    → IsOutcome S (journal_of S) (map (λ p. p.bytes) packets) o → CanLeave S o.leaving
can_leave S packets o setup fit captured is =
    let bytes : List (List ℕ) = map (λ p. p.bytes) packets in
    let short : All (λ b. length b ≤ PACKET_BYTES_MAX) bytes =
    All-map (λ b. length b ≤ PACKET_BYTES_MAX) (λ p. p.bytes) packets captured in
    record {
      of_setup = left-known S (journal_of S) bytes o is;
      different = left-differ S (journal_of S) bytes o setup is;
      lengths = left-bytes (λ b. length b ≤ PACKET_BYTES_MAX) S (journal_of S) bytes o is
          (λ b listed. All-Among (λ b. length b ≤ PACKET_BYTES_MAX) b bytes short listed);
      times = left-ticks (λ tick. output_time S.base_ns S.tick_ns tick < RECORD_NS_END) S (journal_of S) bytes o is
          (λ p tick among left. fit p tick among left);
    }

-- a record can hold the time of each packet that leaves
pub plan_fits : (S : SetupView) → OutputsFit S → (p : PacketPlan) → Among p S.packets → FitsRecord S (fate_of S p)
plan_fits S fit p among = go (fate_of S p) refl
  where
    go : (f : Fate) → fate_of S p ≡ f → FitsRecord S f
    go (Left tick) is = fit p tick among is
    go (Dropped pipe tick cause) is = tt

pub fates_fit : (S : SetupView) (fates : List Fate) → OutputsFit S → fates ≡ map (fate_of S) S.packets → All (FitsRecord S) fates
fates_fit S fates fit same =
    subst (All (FitsRecord S)) (sym same)
    (All-from_each (FitsRecord S) (map (fate_of S) S.packets)
    (λ f there. let its = Among-from-map (fate_of S) f S.packets there in subst (FitsRecord S) its.2 (plan_fits S fit its.0 its.1)))
