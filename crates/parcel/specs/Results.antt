-- The result of a core at the end of a run: its packets as they are settled, and its counts.
use Rattle.std.specs.Prelude.{◌≡◌, ◌≢◌, ℕ, ◌==◌, ◌&&◌, not, Bool, false, List, [], length, map, filter, Option, Some, None, find, slice_get, AllPairs}
use Rattle.std.specs.Option.{option_map_or}
use Rattle.std.specs.List.{zip}
use Rattle.mn_base.specs.Among.{Among}
use Rattle.journal.specs.declared.setup.PacketPlan.{PacketPlan}
use Rattle.journal.specs.declared.visit.Visit.{Visit}
use Rattle.journal.specs.declared.fate.Fate.{Fate}
use Rattle.journal.specs.declared.fate.Fate.TheVariants.{Left, Dropped}
use Rattle.journal.specs.SetupView.{SetupView}
use Rattle.journal.specs.Journal.{journal_of}
use Rattle.journal.specs.Fates.{last_visit, fate_of}
use Rattle.parcel.specs.declared.counts.CoreCounts.{CoreCounts}
use Rattle.parcel.specs.declared.core_result.Settled.{Settled}
use Rattle.parcel.specs.Owners.{owner_of, own_pipes}
use Rattle.parcel.specs.Windows.{window_count}
use Rattle.parcel.specs.Known.{origin_of}
use Rattle.parcel.specs.Counts.{counts_of}
use Rattle.parcel.specs.CoreResultView.{CoreResultView}

-- the bytes of the packet of a number, where each packet of the setup has its bytes
abbrev pub packet_bytes : SetupView → List (List ℕ) → ℕ → List ℕ
packet_bytes S bytes number = option_map_or (λ e. e.1) (find (λ e. e.0.number == number) (zip S.packets bytes)) []

-- bytes go with a packet that left, and with no other
abbrev pub bytes_by_fate : Fate → List ℕ → Option (List ℕ)
bytes_by_fate (Left tick) bytes = Some bytes
bytes_by_fate (Dropped pipe tick cause) bytes = None

-- a packet that entered at this core, as it is settled
pub record IsSettled (S : SetupView) (bytes : List (List ℕ)) (core : ℕ) (t : Settled) : Type 0 where
  pub plan : PacketPlan
  pub among : Among plan S.packets
  pub entered : plan.core ≡ core
  pub packet : t.packet ≡ plan.number
  pub fate : t.fate ≡ fate_of S plan
  pub its_bytes : t.bytes ≡ bytes_by_fate (fate_of S plan) (packet_bytes S bytes plan.number)

-- whether a core made the visit that ends a packet's way
abbrev pub is_decided_by : SetupView → ℕ → PacketPlan → Bool
is_decided_by S core p = option_map_or (λ v. owner_of S v.pipe == core) (last_visit (journal_of S) p.number) false

-- the visits of other cores of which a core tells them
abbrev pub arrivals_from : SetupView → ℕ → List Visit
arrivals_from S core =
    filter (λ v. ((origin_of S v).core == core) && not (owner_of S v.pipe == core)) (journal_of S)

-- the packets that entered at other cores and of whose fates a core tells them
abbrev pub decisions_from : SetupView → ℕ → List PacketPlan
decisions_from S core = filter (λ p. is_decided_by S core p && not (p.core == core)) S.packets

-- what a core does in a whole run
abbrev pub counts_at : SetupView → ℕ → CoreCounts
counts_at S core = record {
  pipes = length (own_pipes S core);
  entered = length (filter (λ p. p.core == core) S.packets);
  visits = length (filter (λ v. owner_of S v.pipe == core) (journal_of S));
  arrivals = length (arrivals_from S core);
  settles = length (decisions_from S core);
  windows = window_count S;
}

-- r is the result of this core of the setup S whose packets have these bytes
pub record IsResult (S : SetupView) (bytes : List (List ℕ)) (core : ℕ) (r : CoreResultView) : Type 0 where
  -- each packet of the setup has its bytes
  pub each_has_bytes : length bytes ≡ length S.packets
  -- what is settled are packets that entered there, with their fates, and with their bytes where they left
  pub settled : (t : Settled) → Among t r.settled → IsSettled S bytes core t
  -- all of them are settled
  pub all : (p : PacketPlan) → Among p S.packets → p.core ≡ core → Among p.number (map (λ t. t.packet) r.settled)
  -- and each once
  pub once : AllPairs (λ t u. t.packet ≢ u.packet) r.settled
  -- what its pipes did, in pipe order
  pub pipe_counts : r.pipe_counts ≡ map (counts_of (journal_of S)) (own_pipes S core)
  -- and what it did itself
  pub counts : r.counts ≡ counts_at S core

-- the results of all cores of the setup S, in core order, where its packets have these bytes
pub record AreResults (S : SetupView) (bytes : List (List ℕ)) (results : List CoreResultView) : Type 0 where
  pub one_a_core : length results ≡ S.cores
  pub each : (core : ℕ) (r : CoreResultView) → slice_get results core ≡ Some r → IsResult S bytes core r
