use Rattle.std.proofs.Common.{◌<◌, ◌+◌, AllPairs, refl, ap, sym, subst}
use Rattle.red_queue.specs.SetupView.{RedSetupView}
use Rattle.red_queue.specs.Making.{HaveRedEntered}
use Rattle.red_queue.proofs.Making.{get-at, entered-push, entered-rising}
use Rattle.red_queue.proofs.maker.enter.Goals as goal

pub returns-clause-entered : goal.returns-clause-entered
returns-clause-entered c =
    subst (HaveRedEntered c.args.setup.now (c.args.number + 1)) (sym c.in_ok-push.ensures.items)
    (entered-push c.index.result.now _ c.requires.entered
    (get-at c.args.setup.now.packets _ c.args.number c.index.result.now (ap (λ (s : RedSetupView). s.packets) c.setup.view_is)
    c.requires.within c.index.ensures) refl refl)

pub returns-clause-rising : goal.returns-clause-rising
returns-clause-rising c =
    subst (AllPairs (λ v w. v.due.packet < w.due.packet)) (sym c.in_ok-push.ensures.items)
    (entered-rising c.index.result.now _ c.requires.entered
    (get-at c.args.setup.now.packets _ c.args.number c.index.result.now (ap (λ (s : RedSetupView). s.packets) c.setup.view_is)
    c.requires.within c.index.ensures) refl refl c.requires.rising)
