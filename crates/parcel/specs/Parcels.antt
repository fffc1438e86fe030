-- What a parcel has: the notes from one core to another between two windows, and the least tick of which the sender knows.
use Rattle.std.specs.Prelude.{◌≡◌, ◌⊎◌, ◌↔◌, ℕ, ◌+◌, ◌<◌, Some, AllPairs}
use Rattle.mn_base.specs.Among.{Among}
use Rattle.journal.specs.declared.setup.PacketPlan.{PacketPlan}
use Rattle.journal.specs.declared.visit.Visit.{Visit}
use Rattle.journal.specs.declared.fate.Fate.{Fate}
use Rattle.journal.specs.declared.fate.Fate.TheVariants.{Left, Dropped}
use Rattle.journal.specs.SetupView.{SetupView}
use Rattle.journal.specs.Journal.{journal_of}
use Rattle.journal.specs.Fates.{last_visit, fate_of}
use Rattle.parcel.specs.declared.note.Note.{Note}
use Rattle.parcel.specs.declared.note.Note.TheVariants.{Arrive, Settle}
use Rattle.parcel.specs.Owners.{owner_of}
use Rattle.parcel.specs.Windows.{window_of}
use Rattle.parcel.specs.Known.{origin_of, IsLeastKnown}
use Rattle.parcel.specs.ParcelView.{ParcelView}

-- a visit of one core of which the other tells it in its parcel of this number
pub record IsArrival (S : SetupView) (sender receiver number : ℕ) (v : Visit) : Type 0 where
  pub among : Among v (journal_of S)
  pub owner : owner_of S v.pipe ≡ receiver
  pub from_core : (origin_of S v).core ≡ sender
  pub from_number : (origin_of S v).number ≡ number

-- a packet that entered at one core, and whose last visit the other made in the window before its parcel of this number
pub record IsDecided (S : SetupView) (sender receiver number : ℕ) (p : PacketPlan) : Type 0 where
  pub among : Among p S.packets
  pub entered : p.core ≡ receiver
  pub last : Visit
  pub is_last : last_visit (journal_of S) p.number ≡ Some last
  pub owner : owner_of S last.pipe ≡ sender
  pub window : window_of S last.tick + 1 ≡ number

abbrev pub arrive_note : Visit → Note
arrive_note v = Arrive v.packet v.hop v.tick

abbrev pub settle_note : SetupView → PacketPlan → Note
settle_note S p = Settle p.number (fate_of S p)

-- a note of the parcel of this number from one core to another
abbrev pub IsNote : SetupView → ℕ → ℕ → ℕ → Note → Type 0
IsNote S sender receiver number note =
    ((v : Visit) × IsArrival S sender receiver number v × (arrive_note v ≡ note))
    ⊎ ((p : PacketPlan) × IsDecided S sender receiver number p × (settle_note S p ≡ note))

-- the tick at which a packet leaves or is dropped
abbrev pub fate_tick : Fate → ℕ
fate_tick (Left tick) = tick
fate_tick (Dropped pipe tick cause) = tick

abbrev pub note_tick : Note → ℕ
note_tick (Arrive packet hop tick) = tick
note_tick (Settle packet fate) = fate_tick fate

abbrev pub note_packet : Note → ℕ
note_packet (Arrive packet hop tick) = packet
note_packet (Settle packet fate) = packet

-- the canonical order of notes: by tick, then by packet number
abbrev pub NoteBefore : Note → Note → Type 0
NoteBefore a b =
    (note_tick a < note_tick b) ⊎ ((note_tick a ≡ note_tick b) × (note_packet a < note_packet b))

-- the parcel of this number from one core to another
pub record IsParcel (S : SetupView) (sender receiver number : ℕ) (p : ParcelView) : Type 0 where
  -- its notes are in canonical order, strictly
  pub rises : AllPairs NoteBefore p.notes
  -- they are the notes of this parcel, and all of them
  pub notes : (note : Note) → Among note p.notes ↔ IsNote S sender receiver number note
  -- its least tick is that of the visits that the sender knows of
  pub least : IsLeastKnown S sender number p.least
