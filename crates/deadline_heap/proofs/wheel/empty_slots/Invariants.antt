use Rattle.std.proofs.Common.{◌≡◌, ℕ, length, []}
use Rattle.std.specs.Prelude.{slice_index_or}
use Rattle.deadline_heap.proofs.wheel.empty_slots.Given as goal

abbrev pub invariant-loop-slot : goal.invariant-loop-slot
invariant-loop-slot l = (length l.slots.items ≡ l.slot) × ((slot : ℕ) → slice_index_or l.slots.items slot [] ≡ [])
