use Rattle.std.proofs.Common.{arith}
use Rattle.deadline_heap.proofs.FirstBits.{bit_of-set_same, bit_of-set_other}
use Rattle.deadline_heap.proofs.marks.set_mark.Goals as goal

pub returns-clause-here : goal.returns-clause-here
returns-clause-here c = bit_of-set_same c.args.words.now c.args.slot (omega arith)

pub returns-clause-others : goal.returns-clause-others
returns-clause-others c = bit_of-set_other c.args.words.now c.args.slot (omega arith)
