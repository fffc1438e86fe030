use Rattle.red_queue.proofs.Meets.{one_journal}
use Rattle.red_queue.proofs.laws.red_unique.Goals as goal

pub returns : goal.returns
returns c = one_journal c.args.setup.now c.requires
