use Rattle.std.proofs.Common.{◌≡◌, length, ap, subst, arith}
use Rattle.red_queue.specs.SetupView.{RedSetupView}
use Rattle.red_queue.specs.Making.{HaveRedEntered}
use Rattle.red_queue.proofs.Making.{entered-same}
use Rattle.red_queue.proofs.maker.first_dues.Goals as goal

pub returns : goal.returns
returns c =
    let all : c.loop-number.number ≡ length c.args.setup.now.packets =
    omega (
      arith,
      c.loop-number-test.false,
      c.loop-number.auto.number-end,
      c.len-number-end.ensures,
      ap (λ (s : RedSetupView). length s.packets) c.setup.view_is,
    ) in
    entered-same c.args.setup.now (length c.args.setup.now.packets) c.loop-number.firsts.items c.of_firsts.result c.of_firsts.ensures
    (subst (λ n. HaveRedEntered c.args.setup.now n c.loop-number.firsts.items) all c.loop-number.invariant.entered)
