use Rattle.std.proofs.Common.{◌≡◌, ℕ, [], length, slice_index_or}
use Rattle.core_loop.proofs.Sums.{items_of}
use Rattle.core_loop.proofs.handing.no_notes.Given as goal

abbrev pub invariant-loop-core : goal.invariant-loop-core
invariant-loop-core l = record {
  count : length l.notes.items ≡ l._core;
  empty : (core : ℕ) → slice_index_or (items_of l.notes.items) core [] ≡ [];
}
