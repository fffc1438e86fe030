-- What contracts see of the wheel: its base, and its visits in canonical order.
use Rattle.std.specs.Prelude.{◌≡◌, ℕ, zero, suc, ◌+◌, ◌^◌, ◌<◌, ◌≤◌, ◌%◌, List, [], ◌++◌, length, map, slice_index_or}
use Rattle.mn_base.specs.Among.{Among}
use Rattle.mn_base.specs.declared.due.Due.{Due}
use Rattle.deadline_heap.specs.declared.wheel.TheConstants.{SLOTS}
use Rattle.deadline_heap.specs.Bits.{bit_of}
use Rattle.deadline_heap.specs.Entries.{at_tick}

pub record WheelView : Type 0 where
  pub base : ℕ
  pub visits : List Due

-- the entries of the slot of a tick
abbrev pub slot_of : List (List (ℕ × ℕ)) → ℕ → List (ℕ × ℕ)
slot_of slots tick = slice_index_or slots (tick % SLOTS) []

-- the visits of `count` ticks from `tick` on, each in the slot of its tick
unfoldable pub visits_from : List (List (ℕ × ℕ)) → ℕ → ℕ → List Due
visits_from slots tick zero = []
visits_from slots tick (suc count) = map (at_tick tick) (slot_of slots tick) ++ visits_from slots (tick + 1) count

-- a tick that the wheel has a slot for
abbrev pub IsAhead : ℕ → ℕ → Type 0
IsAhead base tick = (base ≤ tick) × (tick < base + SLOTS)

-- what the fields of a wheel keep: a bit is set exactly where its slot has an entry, and each tick fits its type
pub record IsWheel (slots : List (List (ℕ × ℕ))) (words : List ℕ) (base : ℕ) : Type 0 where
  pub count : length slots ≡ SLOTS
  pub empty : (tick : ℕ) → bit_of words (tick % SLOTS) ≡ 0 → slot_of slots tick ≡ []
  pub used : (tick : ℕ) → bit_of words (tick % SLOTS) ≡ 1 → 0 < length (slot_of slots tick)
  pub fits : (due : Due) → Among due (visits_from slots base SLOTS) → due.tick < 2 ^ 64
