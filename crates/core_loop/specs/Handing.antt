-- What comes of notes: what a core takes in, what it has to tell between two windows, and what it has once that is handed out.
use Rattle.std.specs.Prelude.{◌≡◌, ◌≢◌, ◌⊎◌, ◌↔◌, ℕ, ◌+◌, ◌<◌, ◌≤◌, ◌==◌, nat_lt, Bool, true, false, ◌&&◌, not, List, [], ◌∷◌, length, map, filter, Option, Some, None, IsSome, AllPairs, min, slice_index_or}
use Rattle.std.specs.Option.{option_map_or}
use Rattle.std.specs.List.Sorted.{IsPermutation}
use Rattle.std.specs.FinMap as fin
use Rattle.mn_base.specs.Among.{Among}
use Rattle.mn_base.specs.declared.due.Due.{Due}
use Rattle.journal.specs.declared.setup.PacketPlan.{PacketPlan}
use Rattle.journal.specs.SetupView.{SetupView, route_of}
use Rattle.journal.specs.IsSetup.{IsSetup}
use Rattle.journal.specs.Journal.{journal_of}
use Rattle.journal.specs.Fates.{last_visit}
use Rattle.parcel.specs.declared.note.Note.{Note}
use Rattle.parcel.specs.declared.note.Note.TheVariants.{Arrive, Settle}
use Rattle.parcel.specs.declared.counts.CoreCounts.{CoreCounts}
use Rattle.parcel.specs.Owners.{owner_of}
use Rattle.parcel.specs.Windows.{window_of, window_count}
use Rattle.parcel.specs.Known.{origin_of}
use Rattle.parcel.specs.Parcels.{IsDecided, IsNote, note_packet, NoteBefore}
use Rattle.parcel.specs.ParcelView.{ParcelView}
use Rattle.parcel.specs.Told.{Told}
use Rattle.deadline_heap.specs.Canonical.{HasNoneOf, placed}
use Rattle.core_loop.specs.CoreView.{CoreView, PeerView, no_peer}
use Rattle.core_loop.specs.WorldState.{IsHeapAt, visits_below, counts_below, AreSettled}
use Rattle.core_loop.specs.Work.{EntrantsView, Settling, HaveRun, WorkView, is_settle, is_left_to_tell}
use Rattle.core_loop.specs.declared.handing.Sent.{Sent}

-- ---- what is taken in

-- with a note a visit comes to be due, or a packet is settled
abbrev pub TakesNote : Note → List Due → EntrantsView → List Due → EntrantsView → Type 0
TakesNote (Arrive packet hop tick) g d h e = (h ≡ placed (record { tick = tick; packet = packet; hop = hop }) g) × (e ≡ d)
TakesNote (Settle packet fate) g d h e = (h ≡ g) × Settling d packet fate e

-- and with notes in turn
abbrev pub TakesNotes : List Note → List Due → EntrantsView → List Due → EntrantsView → Type 0
TakesNotes [] g d h e = (h ≡ g) × (e ≡ d)
TakesNotes (note ∷ notes) g d h e = (k : List Due) × (b : EntrantsView) × TakesNote note g d k b × TakesNotes notes k b h e

-- a note can be taken in: its packet has no other visit due, or its payload is held
abbrev pub CanTake : Note → List Due → EntrantsView → Type 0
CanTake (Arrive packet hop tick) heap e = HasNoneOf packet heap
CanTake (Settle packet fate) heap e = IsSome (fin.get e.store.held packet)

-- notes can be taken in, one after the other: no packet has two of them
pub record CanTakeAll (notes : List Note) (heap : List Due) (e : EntrantsView) : Type 0 where
  pub each : (note : Note) → Among note notes → CanTake note heap e
  pub apart : AllPairs (λ a b. a ≢ b) (map note_packet notes)

-- the same but for what is due
abbrev pub SameButHeap : WorkView → WorkView → Type 0
SameButHeap v w = w ≡ record v { heap = w.heap }

-- ---- what is told

-- the earlier of two ticks, of which each may be none
abbrev pub earlier_of : Option ℕ → Option ℕ → Option ℕ
earlier_of None b = b
earlier_of (Some a) None = Some a
earlier_of (Some a) (Some b) = Some (min a b)

-- visits, and fates, of which another core is told
abbrev pub is_told_arrival : ℕ → Told → Bool
is_told_arrival core t = not (is_settle t.note) && not (t.receiver == core)

abbrev pub is_told_settle : ℕ → Told → Bool
is_told_settle core t = is_settle t.note && not (t.receiver == core)

-- a tick of a visit that is due here
abbrev pub IsDueTick : List Due → ℕ → Type 0
IsDueTick heap t = (x : Due) × Among x heap × (x.tick ≡ t)

-- a tick of a visit of which another core is told
abbrev pub IsToldTick : ℕ → List Told → ℕ → Type 0
IsToldTick core told t =
    (receiver : ℕ) × (receiver ≢ core) × ((packet hop : ℕ) × Among (record { receiver = receiver; note = Arrive packet hop t }) told)

-- the notes for a core
abbrev pub notes_for : List Told → ℕ → List Note
notes_for told receiver = map (λ t. t.note) (filter (λ t. t.receiver == receiver) told)

-- what the notes to other cores come to, with one more
abbrev pub sent_with : Sent → Note → Sent
sent_with s (Arrive packet hop tick) = record s { arrivals = s.arrivals + 1; least = earlier_of s.least (Some tick) }
sent_with s (Settle packet fate) = record s { settles = s.settles + 1 }

-- these are the notes of a core's parcels of this number, and what it tells itself: each once
pub record AreTold (S : SetupView) (core number : ℕ) (told : List Told) : Type 0 where
  pub members : (t : Told) → Among t told ↔ ((is_left_to_tell core t ≡ true) × IsNote S core t.receiver number t.note)
  pub once : AllPairs (λ t u. t ≢ u) told

-- ---- what a core has between a window and the parcels that come of it

-- the visits of which a core has told others in parcels below this number
abbrev pub arrivals_told : SetupView → ℕ → ℕ → ℕ
arrivals_told S core number =
    length (filter (λ v. (((origin_of S v).core == core) && nat_lt (origin_of S v).number number)
    && not (owner_of S v.pipe == core)) (journal_of S))

-- and the packets of whose fates it has told them
abbrev pub is_told_below : SetupView → ℕ → ℕ → PacketPlan → Bool
is_told_below S core number p =
    option_map_or (λ v. (owner_of S v.pipe == core) && nat_lt (window_of S v.tick + 1) number)
    (last_visit (journal_of S) p.number) false

abbrev pub settles_told : SetupView → ℕ → ℕ → ℕ
settles_told S core number = length (filter (λ p. is_told_below S core number p && not (p.core == core)) S.packets)

-- what a core has done when it has run so many windows, and its parcels of that number are still to be made
abbrev pub counts_before : SetupView → ℕ → ℕ → CoreCounts
counts_before S core windows =
    record (counts_below S core windows) { arrivals = arrivals_told S core windows; settles = settles_told S core windows }

-- the fate of a packet was known at the core where it entered before these parcels are made
abbrev pub WasDecidedBy : SetupView → ℕ → ℕ → (ℕ → ℕ) → PacketPlan → Type 0
WasDecidedBy S core windows taken p =
    (route_of S p.number ≡ [])
    ⊎ (((number : ℕ) × (number < windows) × IsDecided S core core number p)
    ⊎ ((sender number : ℕ) × (sender ≢ core) × (number < taken sender) × IsDecided S sender core number p))

-- a window is run, or none yet; what comes of it is to be handed out
pub record IsToHandOut (w : WorkView) (peers : List PeerView) : Type 0 where
  pub is_setup : IsSetup w.setup
  pub known : w.number < w.setup.cores
  pub within : w.counts.windows ≤ window_count w.setup
  pub one_peer_each : length peers ≡ w.setup.cores
  pub posted : (other : ℕ) → other < w.setup.cores → other ≢ w.number → (slice_index_or peers other no_peer).posted ≡ w.counts.windows
  pub taken : (other : ℕ) → other < w.setup.cores → other ≢ w.number → (slice_index_or peers other no_peer).taken ≡ w.counts.windows
  pub heap_is : IsHeapAt w.setup w.number w.counts.windows (λ other. w.counts.windows) w.heap
  pub pipes_have_run : HaveRun w.setup w.number (visits_below w.setup w.counts.windows) w.pipes
  pub counts_are : w.counts ≡ counts_before w.setup w.number w.counts.windows
  pub told_are : AreTold w.setup w.number w.counts.windows w.told

-- and with these bytes, the packets whose fates were known before are settled
abbrev pub IsToSettle : List (List ℕ) → WorkView → EntrantsView → Type 0
IsToSettle bytes w e =
    AreSettled w.setup bytes w.number (WasDecidedBy w.setup w.number w.counts.windows (λ other. w.counts.windows)) e.settled e.store

-- a core of these parts
abbrev pub parts_view : WorkView → EntrantsView → List PeerView → CoreView
parts_view w e peers = record {
  setup = w.setup;
  number = w.number;
  peers = peers;
  heap = w.heap;
  pipes = w.pipes.pipes;
  pipe_counts = w.pipes.counts;
  settled = e.settled;
  store = e.store;
  counts = w.counts;
  failed = false;
}

-- setup, number and windows stay
pub record SameWindows (v w : WorkView) : Type 0 where
  pub same_setup : w.setup ≡ v.setup
  pub same_number : w.number ≡ v.number
  pub same_windows : w.counts.windows ≡ v.counts.windows

-- as many parcels were posted and taken
pub record SameNumbers (ps qs : List PeerView) : Type 0 where
  pub as_many : length qs ≡ length ps
  pub posts : (other : ℕ) → (slice_index_or qs other no_peer).posted ≡ (slice_index_or ps other no_peer).posted
  pub takes : (other : ℕ) → (slice_index_or qs other no_peer).taken ≡ (slice_index_or ps other no_peer).taken

-- a parcel of these notes and this least tick
pub record IsParcelOf (notes : List Note) (least : Option ℕ) (p : ParcelView) : Type 0 where
  pub rises : AllPairs NoteBefore p.notes
  pub same : IsPermutation notes p.notes
  pub least_is : p.least ≡ least

-- what is kept of a core when the parcels of a round are made of these notes, a list for each core
pub record IsHanded (number : ℕ) (lists : List (List Note)) (least : Option ℕ) (other : ℕ) (p q : PeerView) : Type 0 where
  pub posted : q.posted ≡ p.posted
  pub taken : q.taken ≡ p.taken
  pub own : other ≡ number → q.least ≡ least
  pub owed : other ≢ number → (r : ParcelView) × (q.owed ≡ Some r) × IsParcelOf (slice_index_or lists other []) least r

pub record AreHanded (number : ℕ) (lists : List (List Note)) (least : Option ℕ) (ps qs : List PeerView) : Type 0 where
  pub as_many : length qs ≡ length ps
  pub each : (other : ℕ) → other < length ps → IsHanded number lists least other (slice_index_or ps other no_peer) (slice_index_or qs other no_peer)
