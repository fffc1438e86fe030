use Rattle.std.proofs.Common.{length, ap, arith, refl}
use Rattle.pipe.proofs.HeldVisits.{puts-some}
use Rattle.red_queue.specs.SetupView.{RedSetupView}
use Rattle.red_queue.proofs.Making.{on_ok, hop-next}
use Rattle.red_queue.proofs.maker.follow_up.Goals as goal

pub returns : goal.returns
returns c =
    on_ok c.add.result
    (puts-some (hop-next c.args.setup.now c.args.made.due.packet c.args.made.due.hop c.in-Pass.exit c.args.step c.in-Pass.is
    (omega (arith, c.if-made-len.false, c.len.ensures, ap (λ (s : RedSetupView). length s.pipes) c.setup.view_is))) refl)
    c.add.ensures.added
