-- What holds of the windows and the parcels of each setup.
use Rattle.std.specs.Prelude.{◌≡◌, ◌≢◌, ◌↔◌, ℕ, ◌+◌, ◌^◌, ◌<◌, ◌≤◌, length, Option, Some, None, slice_get}
use Rattle.mn_base.specs.Among.{Among}
use Rattle.journal.specs.declared.visit.Visit.{Visit}
use Rattle.journal.specs.SetupView.{SetupView}
use Rattle.journal.specs.Journal.{journal_of}
use Rattle.parcel.specs.declared.note.Note.{Note}
use Rattle.parcel.specs.Owners.{owner_of}
use Rattle.parcel.specs.Lookahead.{lookahead_of}
use Rattle.parcel.specs.Windows.{window_starts, window_count, window_of}
use Rattle.parcel.specs.Known.{origin_of, IsKnown, IsLeastKnown}
use Rattle.parcel.specs.ParcelView.{ParcelView}
use Rattle.parcel.specs.Parcels.{IsNote, note_packet, IsParcel}

-- the window of this number starts at this tick
abbrev pub Starts : SetupView → ℕ → ℕ → Type 0
Starts S number tick = slice_get (window_starts S) number ≡ Some tick

-- this tick is the least one of a visit that is at `bound` or later
pub record IsLeastFrom (S : SetupView) (bound tick : ℕ) : Type 0 where
  pub late : bound ≤ tick
  pub visited : (v : Visit) × Among v (journal_of S) × (v.tick ≡ tick)
  pub least : (v : Visit) → Among v (journal_of S) → bound ≤ v.tick → tick ≤ v.tick

-- a tick is in the window of this number: at its start or later, and before its end
pub record IsInWindow (S : SetupView) (number tick : ℕ) : Type 0 where
  pub start : ℕ
  pub starts : Starts S number start
  pub low : start ≤ tick
  pub high : tick < start + lookahead_of S

-- the windows of a setup
pub record WindowsHold (S : SetupView) : Type 0 where
  -- the first starts at the least tick of all visits
  pub first : (start : ℕ) → Starts S 0 start → IsLeastFrom S 0 start
  -- each other at the least tick of a visit that is at the end of the one before it, or later
  pub next :
      (number start behind : ℕ) → Starts S number start → Starts S (number + 1) behind
      → IsLeastFrom S (start + lookahead_of S) behind
  -- each visit is in the window that has its tick
  pub visit : (v : Visit) → Among v (journal_of S) → IsInWindow S (window_of S v.tick) v.tick
  -- and in no other
  pub one : (v : Visit) (number : ℕ) → Among v (journal_of S) → IsInWindow S number v.tick → number ≡ window_of S v.tick
  -- which is one of those that are counted
  pub counted : (v : Visit) → Among v (journal_of S) → window_of S v.tick < window_count S
  -- each window that is counted has a visit
  pub window :
      (number : ℕ) → number < window_count S
      → (v : Visit) × Among v (journal_of S) × (window_of S v.tick ≡ number)

-- there are no more windows than visits, and fewer than 2^28 of both
pub record WindowsAreFew (S : SetupView) : Type 0 where
  pub windows : window_count S ≤ length (journal_of S)
  pub visits : length (journal_of S) < 2 ^ 28

-- a visit of another core than the one that knows of it first is in no window before the parcel that tells of it
abbrev pub LookaheadHolds : SetupView → Type 0
LookaheadHolds S =
    (v : Visit) → Among v (journal_of S) → (origin_of S v).core ≢ owner_of S v.pipe
    → (origin_of S v).number ≤ window_of S v.tick

-- a visit that isn't run before the window of this number, and of which some core knows by its parcels of this number
pub record IsInSight (S : SetupView) (number : ℕ) (v : Visit) : Type 0 where
  pub among : Among v (journal_of S)
  pub window : number ≤ window_of S v.tick
  pub told : (origin_of S v).number ≤ number

-- each visit in sight is known to exactly one core, and the least of the least ticks that all cores know starts the window
pub record LeastHolds (S : SetupView) : Type 0 where
  -- a visit in sight is known to one core
  pub keeper :
      (number : ℕ) (v : Visit) → IsInSight S number v → (core : ℕ) × (core < S.cores) × IsKnown S core number v
  -- and to no other
  pub alone :
      (number : ℕ) (v : Visit) (core other : ℕ) → IsKnown S core number v → IsKnown S other number v → core ≡ other
  -- the visit that starts a window is in sight
  pub in_sight :
      (number : ℕ) (v : Visit) → Among v (journal_of S) → Starts S number v.tick → IsInSight S number v
  -- so no core knows of a tick before that start
  pub bound :
      (number start core tick : ℕ) → Starts S number start → IsLeastKnown S core number (Some tick) → start ≤ tick
  -- and one core has it as its least tick
  pub reached :
      (number start : ℕ) → Starts S number start
      → (core : ℕ) × (core < S.cores) × IsLeastKnown S core number (Some start)
  -- no core knows of a visit exactly where all windows are run
  pub ends :
      (number : ℕ) → number ≤ window_count S
      → ((core : ℕ) → core < S.cores → IsLeastKnown S core number None) ↔ (number ≡ window_count S)
  -- a core has one least tick
  pub one :
      (core number : ℕ) (a b : Option ℕ) → IsLeastKnown S core number a → IsLeastKnown S core number b → a ≡ b

-- a packet has at most one note in a parcel
abbrev pub NotesDiffer : SetupView → Type 0
NotesDiffer S =
    (sender receiver number : ℕ) (a b : Note) → sender ≢ receiver → IsNote S sender receiver number a
    → IsNote S sender receiver number b → note_packet a ≡ note_packet b
    → a ≡ b

-- there is at most one parcel of each number from one core to another
abbrev pub ParcelsAreOne : SetupView → Type 0
ParcelsAreOne S =
    (sender receiver number : ℕ) (p q : ParcelView) → IsParcel S sender receiver number p → IsParcel S sender receiver number q
    → p ≡ q
