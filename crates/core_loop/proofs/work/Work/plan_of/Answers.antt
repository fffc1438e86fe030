use Rattle.std.proofs.Common.{◌≡◌, Some, None, sym, ap, ◌∙◌}
use Rattle.journal.specs.SetupView.{packet_of}
use Rattle.core_loop.specs.Work.{WorkView}
use Rattle.core_loop.proofs.Choosing.{planned}
use Rattle.core_loop.proofs.work.Work.plan_of.Goals as goal

pub unreachable-requires : goal.unreachable-requires
unreachable-requires c =
    let p = planned c.args.self.now c.args.due c.requires in
    let found : c.find.result ≡ Some p.plan =
    c.find.ensures ∙ ap (λ (w : WorkView). packet_of w.setup c.args.due.packet) c.self.view_is ∙ p.known in
    let none : None ≡ Some p.plan = sym c.in-None.is ∙ found in
    cc

pub returns-clause-number : goal.returns-clause-number
returns-clause-number c =
    let p = planned c.args.self.now c.args.due c.requires in
    let found : Some c.in-Some.plan ≡ Some p.plan =
    sym c.in-Some.is ∙ c.find.ensures ∙ ap (λ (w : WorkView). packet_of w.setup c.args.due.packet) c.self.view_is ∙ p.known in
    let same : c.in-Some.plan ≡ p.plan = cc in
    ap (λ q. q.number) same ∙ p.number

pub returns-clause-within : goal.returns-clause-within
returns-clause-within c = (planned c.args.self.now c.args.due c.requires).within
