-- The owners so far, by the numbers of the pipes: of each pipe its owner, or none.
use Rattle.std.specs.Prelude.{ℕ, ◌≡◌, ◌<◌, ◌==◌, Bool, List, [], length, find, Option, Some, None, Result, Ok, Err, is_some, option_map, slice_index_or}
use Rattle.ownership.specs.declared.faults.AssignFault.{AssignFault}
use Rattle.ownership.specs.declared.faults.AssignFault.TheVariants.{Missing}
use Rattle.ownership.specs.declared.reading.OwnerLine.{OwnerLine}
use Rattle.ownership.specs.declared.reading.OwnerNumbers.{OwnerNumbers}
use Rattle.mn_base.specs.Lines.{first_line_fault}
use Rattle.ownership.specs.Owned.{Owned}
use Rattle.ownership.specs.Texts.{owned_of}
use Rattle.ownership.specs.Reading.{AreOwnerLines}
use Rattle.ownership.specs.Faults.{owner_line_fault, owner_fault}

-- whether pipe q has no owner
abbrev pub IsFree : List (Option ℕ) → ℕ → Type 0
IsFree owners q = slice_index_or owners q None ≡ None

-- whether pipe q has an owner
abbrev pub has_owner : List (Option ℕ) → ℕ → Bool
has_owner owners q = is_some (slice_index_or owners q None)

-- the owners so far, by the numbers of the pipes
pub record AreOwners (pipes : ℕ) (owned : List Owned) (owners : List (Option ℕ)) : Type 0 where
  pub len : length owners ≡ pipes
  pub are : (q : ℕ) → q < pipes → slice_index_or owners q None ≡ option_map (λ o. o.core) (find (λ o. o.pipe == q) owned)

-- ---- what the reader's functions answer
abbrev pub line_as_owned : OwnerLine → Owned
line_as_owned l = record { pipe = l.pipe; core = l.core }

abbrev pub numbers_as_owned : OwnerNumbers → Owned
numbers_as_owned l = record { pipe = l.pipe; core = l.core }

-- a line without a fault, or its fault
abbrev pub ReadsOwnerLine : ℕ → ℕ → List (Option ℕ) → List ℕ → Result OwnerLine AssignFault → Type 0
ReadsOwnerLine cores n owners line (Ok l) =
    (owned_of line ≡ Some (line_as_owned l)) × (owner_line_fault (length owners) cores n (has_owner owners) line ≡ None)
ReadsOwnerLine cores n owners line (Err fault) = owner_line_fault (length owners) cores n (has_owner owners) line ≡ Some fault

-- lines without a fault, by the owners that they say
pub record SayOwners (pipes cores : ℕ) (lines : List (List ℕ)) (owners : List (Option ℕ)) : Type 0 where
  pub owned : List Owned
  pub are : AreOwnerLines pipes cores lines owned
  pub owners_are : AreOwners pipes owned owners
  pub faultless : first_line_fault (owner_fault pipes cores) [] lines ≡ None

-- the least pipe without an owner is missed
pub record Misses (owners : List (Option ℕ)) (fault : AssignFault) : Type 0 where
  pub pipe : ℕ
  pub is : fault ≡ Missing pipe
  pub within : pipe < length owners
  pub free : IsFree owners pipe
  pub least : (k : ℕ) → k < pipe → IsFree owners k → ⊥
