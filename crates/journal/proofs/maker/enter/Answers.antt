use Rattle.std.proofs.Common.{◌+◌, AllPairs, sym, subst, ◌<◌}
use Rattle.journal.specs.Held.{HaveEntered}
use Rattle.pipe.proofs.HeldVisits.{pushed-among}
use Rattle.journal.proofs.HeldFirst.{at-within, entered-none, entered-some, entered-rising}
use Rattle.journal.proofs.maker.enter.Goals as goal

pub returns-in_ok-push-clause-entered : goal.returns-in_ok-push-clause-entered
returns-in_ok-push-clause-entered c =
    let p = at-within c.args.setup.now.packets c.args.index c.requires.within in
    subst (λ ws. HaveEntered c.args.setup.now (c.args.index + 1) ws) (sym c.in_ok-push.ensures.items)
    (entered-some c.requires.entered p.1 (c.in-Some.ensures.due p.0 p.1) c.in-Some.ensures.indexed
    (pushed-among c.args.firsts.now.items c.in-Some.first))

pub returns-in_ok-push-clause-rising : goal.returns-in_ok-push-clause-rising
returns-in_ok-push-clause-rising c =
    let p = at-within c.args.setup.now.packets c.args.index c.requires.within in
    subst (λ ws. AllPairs (λ v w. v.due.packet < w.due.packet) ws) (sym c.in_ok-push.ensures.items)
    (entered-rising c.args.setup.now c.requires.setup c.args.index c.args.firsts.now.items p.0 c.in-Some.first c.requires.entered p.1
    (c.in-Some.ensures.due p.0 p.1) c.requires.rising)

pub returns-in_default-clause-entered : goal.returns-in_default-clause-entered
returns-in_default-clause-entered c =
    let p = at-within c.args.setup.now.packets c.args.index c.requires.within in
    entered-none c.args.setup.now c.args.index c.args.firsts.now.items p.0 c.requires.entered p.1 (c.in_default.ensures.due p.0 p.1)
