use Rattle.red_queue.proofs.Making.{making-nil}
use Rattle.red_queue.proofs.maker.Maker.start.Goals as goal

pub returns : goal.returns
returns c =
    making-nil c.args.setup.now c.requires c.in_ok-due.due c.in_ok-pipes.pipes.items c.in_ok-due.ensures c.in_ok-pipes.ensures
