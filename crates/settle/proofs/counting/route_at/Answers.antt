use Rattle.std.proofs.Common.{◌≡◌, ap, ◌∙◌}
use Rattle.journal.specs.declared.setup.PacketPlan.{PacketPlan}
use Rattle.journal.specs.SetupView.{SetupView, route_of}
use Rattle.journal.proofs.Packets.{among-get, packet-known}
use Rattle.settle.proofs.Tallies.{plan-read}
use Rattle.settle.proofs.counting.route_at.Goals as goal

pub route-requires : goal.route-requires
route-requires c =
    packet-known c.args.setup.now c.parts.ensures.kept c.index.result.now
    (among-get c.args.setup.now.packets c.args.index c.index.result.now
    (plan-read c.args.setup.now _ c.args.index c.index.result.now
    (ap (λ (s : SetupView). s.packets) (c.behind-setup.view_is ∙ c.parts.ensures.same)) c.requires c.index.ensures))

pub returns-clause-route : goal.returns-clause-route
returns-clause-route c = λ p at.
    let here =
    plan-read c.args.setup.now _ c.args.index c.index.result.now
    (ap (λ (s : SetupView). s.packets) (c.behind-setup.view_is ∙ c.parts.ensures.same)) c.requires c.index.ensures in
    let same : c.index.result.now ≡ p = cc (here, at) in
    c.route.ensures.route ∙ ap (λ (q : PacketPlan). route_of c.args.setup.now q.number) same
