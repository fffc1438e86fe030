use Rattle.std.proofs.Common.{arith}
use Rattle.red_queue.proofs.Rising.{above_rising}
use Rattle.red_queue.proofs.queue.count_above.Goals as goal

pub returns-clause-value : goal.returns-clause-value
returns-clause-value c =
    omega (arith, above_rising c.args.now c.args.times.now.items c.requires, c.count_gone-gone.ensures.value, c.len.ensures)
