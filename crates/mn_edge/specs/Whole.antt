-- A whole read and a whole write: what stands after each answer.
use Rattle.std.specs.Prelude.{◌≡◌, ◌<◌, ◌≤◌, ℕ, List, ◌++◌, length, Result, Ok, Err}
use Rattle.std.specs.Io.KnownBytes.{IsAtEnd}
use Rattle.mn_base.specs.Causes.{Rose}
use Rattle.mn_edge.specs.declared.host.WriteFault.{WriteFault}
use Rattle.mn_edge.specs.declared.whole.ReadEnd.{ReadEnd}
use Rattle.mn_edge.specs.declared.whole.ReadEnd.TheVariants.{Fault, TooLarge}
use Rattle.mn_edge.specs.declared.whole.ReadEnd.TheVariants as end
use Rattle.mn_edge.specs.Part.{Part, Takes, Adds}

-- all that was left was taken, at most limit bytes
pub record TakesAll (limit : ℕ) (bytes : List ℕ) (old new : Part) : Type 0 where
  pub taken : Takes bytes old new
  pub ends : IsAtEnd new.left
  pub few : length bytes ≤ limit

-- some of what was left was taken, at most limit bytes
pub record TakesUpTo (limit : ℕ) (old new : Part) : Type 0 where
  pub bytes : List ℕ
  pub taken : Takes bytes old new
  pub few : length bytes ≤ limit

-- more than limit bytes were taken
pub record TakesMore (limit : ℕ) (old new : Part) : Type 0 where
  pub bytes : List ℕ
  pub taken : Takes bytes old new
  pub many : limit < length bytes

-- a front of the text was written
pub record AddsFront (text : List ℕ) (old new : Part) : Type 0 where
  pub front : List ℕ
  pub rest : List ℕ
  pub split : text ≡ front ++ rest
  pub added : Adds front old new

-- A whole read. TooLarge comes exactly where more than limit bytes came: after every other answer at most so many did.
-- Fault comes only where the count of faults rose. NoMemory is free.
abbrev pub ReadsWhole : ℕ → Part → Part → Result (List ℕ) ReadEnd → Type 0
ReadsWhole limit old new (Ok bytes) = TakesAll limit bytes old new
ReadsWhole limit old new (Err end.NoMemory) = TakesUpTo limit old new
ReadsWhole limit old new (Err Fault) = TakesUpTo limit old new × Rose old.faults new.faults
ReadsWhole limit old new (Err TooLarge) = TakesMore limit old new

-- A whole write. WriteFault comes only where the count of faults rose.
abbrev pub AddsWhole : List ℕ → Part → Part → Result (Unit {0}) WriteFault → Type 0
AddsWhole text old new (Ok _) = Adds text old new
AddsWhole text old new (Err _) = AddsFront text old new × Rose old.faults new.faults
