use Rattle.std.proofs.Common.{arith}
use Rattle.deadline_heap.proofs.FirstBits.{clear_word, first_set_of_word}
use Rattle.deadline_heap.proofs.marks.first_bit.Goals as goal

pub returns-then-rest-eq0 : goal.returns-then-rest-eq0
returns-then-rest-eq0 c = clear_word c.args.word c.args.from c.if-rest-eq0.true

pub returns : goal.returns
returns c = first_set_of_word c.args.word c.args.from (omega arith) (omega arith)
