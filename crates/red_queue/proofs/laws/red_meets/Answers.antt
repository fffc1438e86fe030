use Rattle.red_queue.proofs.Meets.{meets}
use Rattle.red_queue.proofs.laws.red_meets.Goals as goal

pub returns : goal.returns
returns c = meets c.args.setup.now c.requires
