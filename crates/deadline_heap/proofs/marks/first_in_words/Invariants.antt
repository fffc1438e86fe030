use Rattle.std.proofs.Common.{◌*◌}
use Rattle.deadline_heap.specs.Bits.{bit_of, IsClear}
use Rattle.deadline_heap.proofs.marks.first_in_words.Given as goal

abbrev pub invariant-loop-at : goal.invariant-loop-at
invariant-loop-at l = IsClear (bit_of l.words) (64 * l.from) (64 * l.at)
