-- The map of bits that names the slots with a visit, and the first bit that is set.
use Rattle.std.specs.Prelude.{◌≡◌, ℕ, ◌+◌, ◌<◌, ◌≤◌, ◌/◌, ◌%◌, List, slice_index}
use Rattle.std.specs.Int.{bit_at}
use Rattle.deadline_heap.specs.declared.wheel.TheConstants.{SLOTS}

-- the bit of a slot, in words of 64 bits
abbrev pub bit_of : List ℕ → ℕ → ℕ
bit_of words slot = bit_at (slice_index words (slot / 64)) (slot % 64)

-- the bit of the slot that lies so many ticks ahead of the base
abbrev pub ring_bit : List ℕ → ℕ → ℕ → ℕ
ring_bit words base ahead = bit_of words ((base + ahead) % SLOTS)

-- none of these bits is set
abbrev pub IsClear : (ℕ → ℕ) → ℕ → ℕ → Type 0
IsClear bit from end = (i : ℕ) → from ≤ i → i < end → bit i ≡ 0

-- the first of these bits that is set is the one at k
pub record IsFirstSet (bit : ℕ → ℕ) (from end k : ℕ) : Type 0 where
  pub at_least : from ≤ k
  pub below : k < end
  pub set_here : bit k ≡ 1
  pub clear_before : IsClear bit from k
