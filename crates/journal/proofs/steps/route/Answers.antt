use Rattle.std.proofs.Common.{ap, ◌∙◌, arith, length, ℕ, Vec, Global}
use Rattle.std.proofs.lemmas.List.{length-map}
use Rattle.journal.specs.SetupView.{SetupView}
use Rattle.journal.proofs.Packets.{HasRoute, packet-route, route-read}
use Rattle.journal.proofs.steps.route.Goals as goal

pub index-requires : goal.index-requires
index-requires c =
    let same = ap (λ (s : SetupView). length s.routes) (c.behind-setup.view_is ∙ c.parts.ensures.same) in
    let within = (packet-route c.args.setup.now c.parts.ensures.kept c.args.plan c.requires).within in
    omega (arith, same, within, length-map c.behind-setup.inside.routes.items (λ (r : Vec ℕ Global). r.items))

-- what is read is the packet's route
read : (c : goal.After-deref) → HasRoute c.args.setup.now c.args.plan c.deref.result.now
read c =
    route-read (λ (r : Vec ℕ Global). r.items) c.behind-setup.inside.routes.items c.args.setup.now c.parts.ensures.kept c.args.plan
    c.requires (ap (λ (s : SetupView). s.routes) (c.behind-setup.view_is ∙ c.parts.ensures.same)) c.index.ensures c.deref.ensures.value

pub returns-clause-route : goal.returns-clause-route
returns-clause-route c = (read c).is

pub returns-clause-short : goal.returns-clause-short
returns-clause-short c = (read c).short

pub returns-clause-named : goal.returns-clause-named
returns-clause-named c = (read c).named
