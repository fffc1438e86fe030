use Rattle.std.proofs.Common.{length, ap, arith}
use Rattle.red_queue.specs.SetupView.{RedSetupView}
use Rattle.red_queue.proofs.VisitsTo.{idle-push}
use Rattle.red_queue.proofs.at_work.idle_pipes.Goals as goal

pub loop-number-init : goal.loop-number-init
loop-number-init c = record {
  count = c.new-pipes.ensures.len;
  idle = record { each = λ hop d within. absurd (omega (arith, within, ap length c.new-pipes.ensures.items)) };
}

pub loop-number-preserved : goal.loop-number-preserved
loop-number-preserved c = record {
  count = omega (arith, c.in_ok-push.ensures.len);
  idle = idle-push c.loop-number.pipes.items c.idle.result c.push.new.self.items c.loop-number.number c.loop-number.invariant.idle
      (omega (arith, c.loop-number.invariant.count)) c.in_ok-push.ensures.items c.idle.ensures;
}

pub returns : goal.returns
returns c = record {
  count = omega (
    arith,
    c.loop-number.invariant.count,
    c.loop-number-test.false,
    c.len-number-end.ensures,
    ap (λ (s : RedSetupView). length s.pipes) c.setup.view_is,
  );
  each = c.loop-number.invariant.idle.each;
}
