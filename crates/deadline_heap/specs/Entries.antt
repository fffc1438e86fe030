-- The entries of the ordered maps as visits: those of one slot by packet, those outside of the wheel by tick and packet.
use Rattle.std.specs.Prelude.{◌≢◌, ℕ, nat_lt, List, [], ◌∷◌, map, if◌then◌else◌}
use Rattle.mn_base.specs.Among.{Among}
use Rattle.mn_base.specs.declared.due.Due.{Due}

-- an entry of a slot, (packet, hop), as a visit at the slot's tick
abbrev pub at_tick : ℕ → (ℕ × ℕ) → Due
at_tick tick entry = record { tick = tick; packet = entry.0; hop = entry.1 }

-- a slot with one more entry, in front of the first of a greater packet
abbrev pub entered : (ℕ × ℕ) → List (ℕ × ℕ) → List (ℕ × ℕ)
entered entry [] = entry ∷ []
entered entry (x ∷ rest) = if nat_lt entry.0 x.0 then entry ∷ x ∷ rest else x ∷ entered entry rest

-- a slot has no entry of this packet
abbrev pub HasNoEntry : ℕ → List (ℕ × ℕ) → Type 0
HasNoEntry packet entries = (entry : ℕ × ℕ) → Among entry entries → entry.0 ≢ packet

-- an entry of the ordered map, ((tick, packet), hop), as a visit
abbrev pub visit_of_entry : ((ℕ × ℕ) × ℕ) → Due
visit_of_entry entry = record { tick = entry.0.0; packet = entry.0.1; hop = entry.1 }

abbrev pub visits_of_entries : List ((ℕ × ℕ) × ℕ) → List Due
visits_of_entries entries = map visit_of_entry entries
