-- What a visit has to tell, and whom: the owner of the pipe to which its packet comes next, or, where the packet's way ends, the core at
-- which it entered.
use Rattle.std.specs.Prelude.{ℕ, Option, Some, None}
use Rattle.mn_base.specs.declared.due.Due.{Due}
use Rattle.journal.specs.declared.visit.Visit.{Visit}
use Rattle.journal.specs.SetupView.{SetupView}
use Rattle.journal.specs.Hops.{pipe_of, next_hop}
use Rattle.journal.specs.Fates.{fate_of_visit}
use Rattle.parcel.specs.declared.note.Note.{Note}
use Rattle.parcel.specs.declared.note.Note.TheVariants.{Arrive, Settle}
use Rattle.parcel.specs.Owners.{owner_of, entry_core}

-- a note and the core for which it is
pub record Told : Type 0 where
  pub receiver : ℕ
  pub note : Note

-- the note of a visit that is due
abbrev pub told_due : SetupView → Due → Told
told_due S x = record { receiver = owner_of S (pipe_of S x); note = Arrive x.packet x.hop x.tick }

abbrev pub told_after : SetupView → Visit → Option Due → Told
told_after S v (Some x) = told_due S x
told_after S v None = record { receiver = entry_core S v.packet; note = Settle v.packet (fate_of_visit v) }

-- the one note that comes of a visit; it may be for the core that made the visit
abbrev pub told_by : SetupView → Visit → Told
told_by S v = told_after S v (next_hop S v)
