-- What a core has between its turns, said by the journal of its setup, by how many windows it has run, and by how many parcels it has
-- posted and taken.
use Rattle.std.specs.Prelude.{◌≡◌, ◌≢◌, ◌⊎◌, ◌↔◌, ℕ, ◌+◌, ◌<◌, ◌≤◌, ◌==◌, nat_lt, nat_le, Bool, false, ◌&&◌, not, List, [], length, map, filter, Some, IsSome, AllPairs}
use Rattle.std.specs.Option.{option_map_or}
use Rattle.std.specs.List.{AllZip}
use Rattle.std.specs.FinMap as fin
use Rattle.mn_base.specs.Among.{Among}
use Rattle.mn_base.specs.declared.due.Due.{Due}
use Rattle.journal.specs.declared.setup.PacketPlan.{PacketPlan}
use Rattle.journal.specs.declared.visit.Visit.{Visit}
use Rattle.journal.specs.SetupView.{SetupView, route_of}
use Rattle.journal.specs.Hops.{due_of}
use Rattle.journal.specs.Journal.{journal_of}
use Rattle.journal.specs.Fates.{last_visit}
use Rattle.journal.specs.IsPipe.{SetupPipeView, IsPipe}
use Rattle.parcel.specs.declared.counts.PipeCounts.{PipeCounts}
use Rattle.parcel.specs.declared.counts.CoreCounts.{CoreCounts}
use Rattle.parcel.specs.declared.core_result.Settled.{Settled}
use Rattle.parcel.specs.Owners.{owner_of, own_pipes}
use Rattle.parcel.specs.Windows.{window_of, window_count}
use Rattle.parcel.specs.Known.{origin_of, IsLeastKnown}
use Rattle.parcel.specs.DueAt.{IsDueAt}
use Rattle.parcel.specs.Counts.{counts_of}
use Rattle.parcel.specs.ParcelView.{ParcelView}
use Rattle.parcel.specs.Parcels.{IsDecided, IsParcel}
use Rattle.parcel.specs.Results.{packet_bytes, IsSettled}
use Rattle.payload_store.specs.StoreView.{StoreView}
use Rattle.deadline_heap.specs.Canonical.{IsCanonical}
use Rattle.core_loop.specs.CoreView.{CoreView, windows_of, peer_at, posted_of, taken_of, IsOtherCore}
use Rattle.core_loop.specs.Stocked.{Enters}

-- ---- 1. in step with its windows

-- as many as the windows, or one more
abbrev pub IsNumber : ℕ → ℕ → Type 0
IsNumber windows number = (number ≡ windows) ⊎ (number ≡ windows + 1)

-- it has run no more windows than there are, and each number of parcels is that of its windows or one more
pub record IsInStep (c : CoreView) : Type 0 where
  pub within : windows_of c ≤ window_count c.setup
  pub posted : (other : ℕ) → IsOtherCore c other → IsNumber (windows_of c) (posted_of c other)
  pub taken : (other : ℕ) → IsOtherCore c other → IsNumber (windows_of c) (taken_of c other)

-- ---- 2. what it knows

-- these are the visits that are due at a core, in canonical order
pub record IsHeapAt (S : SetupView) (core windows : ℕ) (taken : ℕ → ℕ) (heap : List Due) : Type 0 where
  pub canonical : IsCanonical heap
  pub members : (x : Due) → Among x heap ↔ ((v : Visit) × IsDueAt S core windows taken v × (due_of v ≡ x))

pub record Knows (c : CoreView) : Type 0 where
  pub heap : IsHeapAt c.setup c.number (windows_of c) (taken_of c) c.heap
  -- its own least tick
  pub least : IsLeastKnown c.setup c.number (windows_of c) (peer_at c c.number).least
  -- the parcels that it still is to post
  pub owed :
      (other : ℕ) → IsOtherCore c other → posted_of c other ≡ windows_of c
      → (p : ParcelView) × ((peer_at c other).owed ≡ Some p) × IsParcel c.setup c.number other (windows_of c) p
  -- the least ticks of the parcels that it has taken
  pub told :
      (other : ℕ) → IsOtherCore c other → taken_of c other ≡ windows_of c + 1
      → IsLeastKnown c.setup other (windows_of c) (peer_at c other).least

-- ---- 3. what its pipes have done

-- the visits in windows below this number
abbrev pub visits_below : SetupView → ℕ → List Visit
visits_below S windows = filter (λ v. nat_lt (window_of S v.tick) windows) (journal_of S)

-- the pipes of a core, in pipe order, after the visits of J
abbrev pub AreOwnPipes : SetupView → ℕ → List Visit → List SetupPipeView → Type 0
AreOwnPipes S core J pipes = AllZip (IsPipe S J) (own_pipes S core) pipes

-- what became of the visits of J to each of them
abbrev pub own_counts : SetupView → ℕ → List Visit → List PipeCounts
own_counts S core J = map (counts_of J) (own_pipes S core)

-- whether a core made the visit that ends a packet's way in a window below this number
abbrev pub is_decided_below : SetupView → ℕ → ℕ → PacketPlan → Bool
is_decided_below S core windows p =
    option_map_or (λ v. (owner_of S v.pipe == core) && nat_lt (window_of S v.tick) windows)
    (last_visit (journal_of S) p.number) false

-- what a core has done when it has run so many windows and made the parcels of that number
abbrev pub counts_below : SetupView → ℕ → ℕ → CoreCounts
counts_below S core windows = record {
  pipes = length (own_pipes S core);
  entered = length (filter (λ p. p.core == core) S.packets);
  visits = length (filter (λ v. owner_of S v.pipe == core) (visits_below S windows));
  arrivals = length (filter (λ v. (((origin_of S v).core == core) && nat_le (origin_of S v).number windows)
      && not (owner_of S v.pipe == core)) (journal_of S));
  settles = length (filter (λ p. is_decided_below S core windows p && not (p.core == core)) S.packets);
  windows = windows;
}

pub record Works (c : CoreView) : Type 0 where
  pub pipes : AreOwnPipes c.setup c.number (visits_below c.setup (windows_of c)) c.pipes
  pub pipe_counts : c.pipe_counts ≡ own_counts c.setup c.number (visits_below c.setup (windows_of c))
  pub counts : c.counts ≡ counts_below c.setup c.number (windows_of c)

-- ---- 4. what is settled

-- the fate of a packet is known at the core where it entered: it has no way to go; or the core itself made its last visit in a
-- window that it has run; or another core did, and has told it in a parcel that was taken
abbrev pub IsDecidedBy : SetupView → ℕ → ℕ → (ℕ → ℕ) → PacketPlan → Type 0
IsDecidedBy S core windows taken p =
    (route_of S p.number ≡ [])
    ⊎ (((number : ℕ) × (number ≤ windows) × IsDecided S core core number p)
    ⊎ ((sender number : ℕ) × (sender ≢ core) × (number < taken sender) × IsDecided S sender core number p))

-- of the packets that entered at a core, those that are decided are settled, each once, with their fates, and with their bytes where
-- they left; they were released, and the others are held with their bytes
pub record AreSettled (S : SetupView) (bytes : List (List ℕ)) (core : ℕ) (Decided : PacketPlan → Type 0) (settled : List Settled)
    (store : StoreView) : Type 0 where
  pub each_has_bytes : length bytes ≡ length S.packets
  pub sound : (t : Settled) → Among t settled → IsSettled S bytes core t
  pub decided : (t : Settled) → Among t settled → (p : PacketPlan) × Enters S core p × Decided p × (p.number ≡ t.packet)
  pub all : (p : PacketPlan) → Enters S core p → Decided p → Among p.number (map (λ t. t.packet) settled)
  pub once : AllPairs (λ t u. t.packet ≢ u.packet) settled
  pub released_are : store.released ≡ map (λ t. t.packet) settled
  pub held_are : (p : PacketPlan) → Enters S core p → (Among p.number store.released → ⊥)
      → fin.get store.held p.number ≡ Some (packet_bytes S bytes p.number)
  pub no_other : (number : ℕ) → IsSome (fin.get store.held number)
      → ((p : PacketPlan) × Enters S core p × (p.number ≡ number)) × (Among number store.released → ⊥)

abbrev pub HaveSettled : List (List ℕ) → CoreView → Type 0
HaveSettled bytes c = AreSettled c.setup bytes c.number (IsDecidedBy c.setup c.number (windows_of c) (taken_of c)) c.settled c.store

-- ---- all of it, where the setup's packets have these bytes
pub record CoreStands (bytes : List (List ℕ)) (c : CoreView) : Type 0 where
  pub in_step : IsInStep c
  pub knows : Knows c
  pub works : Works c
  pub settles : HaveSettled bytes c
