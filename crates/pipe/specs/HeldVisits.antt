-- The due visits that a maker holds, each with the index of its packet.
use Rattle.std.specs.Prelude.{◌≡◌, ◌≢◌, ◌⊎◌, ◌↔◌, ℕ, List, map, Option, Some}
use Rattle.mn_base.specs.Among.{Among}
use Rattle.mn_base.specs.declared.due.Due.{Due}
use Rattle.mn_base.specs.Canonical.{Before}
use Rattle.pipe.specs.declared.due_visits.DueVisit.{DueVisit}

abbrev pub plain : DueVisit → Due
plain w = w.due

-- no visit of this packet is held
abbrev pub HasNone : List DueVisit → ℕ → Type 0
HasNone held packet = (w : DueVisit) → Among w held → w.due.packet ≢ packet

-- the first in canonical order is taken out
pub record TakesVisit (old : List DueVisit) (first : DueVisit) (new : List DueVisit) : Type 0 where
  pub taken : (w : DueVisit) → Among w old ↔ ((first ≡ w) ⊎ Among w new)
  pub before : (w : DueVisit) → Among w new → Before first.due w.due

-- what follows a visit, if anything, is put in, with the packet's index
pub record PutsNext (next : Option Due) (index : ℕ) (old new : List DueVisit) : Type 0 where
  pub keeps : (w : DueVisit) → Among w old → Among w new
  pub comes : (w : DueVisit) → Among w new → Among w old ⊎ ((next ≡ Some w.due) × (w.index ≡ index))
  pub follows : (x : Due) → next ≡ Some x → Among x (map plain new)
