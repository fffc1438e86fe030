use Rattle.journal.proofs.Making.{making-nil}
use Rattle.journal.proofs.maker.Maker.start.Goals as goal

pub returns : goal.returns
returns c =
    making-nil c.args.setup.now c.in_ok-due.ensures.setup c.in_ok-due.due c.in_ok-pipes.pipes.items c.in_ok-due.ensures.held
    c.in_ok-pipes.ensures
