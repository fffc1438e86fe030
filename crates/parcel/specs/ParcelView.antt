-- What contracts see of a parcel.
use Rattle.std.specs.Prelude.{ℕ, List, Option}
use Rattle.parcel.specs.declared.note.Note.{Note}

pub record ParcelView : Type 0 where
  pub notes : List Note
  -- the least tick of a visit of which the sender knows
  pub least : Option ℕ
