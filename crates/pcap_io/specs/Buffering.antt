-- Texts that are written through a block: a front was handed over, and the rest still stands in the block.
use Rattle.std.specs.Prelude.{◌≡◌, List, ◌++◌, ℕ, Result, Ok, Err}
use Rattle.mn_base.specs.Causes.{Rose}
use Rattle.mn_edge.specs.declared.host.WriteFault.{WriteFault}
use Rattle.mn_edge.specs.Part.{Part, Adds}
use Rattle.mn_edge.specs.Whole.{AddsFront}

-- the text was written but for what stands in the block
pub record Buffers (text : List ℕ) (old new : Part) (block : List ℕ) : Type 0 where
  pub front : List ℕ
  pub split : text ≡ front ++ block
  pub added : Adds front old new

-- a whole text went through a block. WriteFault comes only where the count of faults rose.
abbrev pub AddsBuffered : List ℕ → Part → Part → List ℕ → Result (Unit {0}) WriteFault → Type 0
AddsBuffered text old new block (Ok _) = Buffers text old new block
AddsBuffered text old new block (Err _) = AddsFront text old new × Rose old.faults new.faults
