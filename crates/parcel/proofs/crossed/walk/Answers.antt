use Rattle.std.proofs.Common.{ℕ, ◌<◌, List, [], length, All, sym, ap, ◌∙◌, subst}
use Rattle.journal.specs.SetupView.{SetupView}
use Rattle.parcel.specs.Owners.{owned_by}
use Rattle.parcel.proofs.LeastLatency.{route_is, adds_route}
use Rattle.parcel.proofs.crossed.walk.Goals as goal

pub add_crossed-requires-clause-named : goal.add_crossed-requires-clause-named
add_crossed-requires-clause-named c =
    let S = c.args.parts.now in
    let is = c.deref.ensures.value
    ∙ route_is (λ r. r.items) c.parts.inside.routes.items S.routes (ap (λ (v : SetupView). v.routes) c.parts.view_is) c.args.route
    c.requires.known c.index.result.now c.index.ensures in
    let named = subst (λ (n : ℕ). All (λ pipe. pipe < n) c.deref.result.now) (sym c.requires.setup.one_owner)
    (subst (λ (l : List ℕ). All (λ pipe. pipe < length S.pipes) l) (sym is) (c.requires.setup.routes_named c.args.route [] c.requires.known)) in
    named

pub returns-then-route-walked-2 : goal.returns-then-route-walked-2
returns-then-route-walked-2 c =
    let S = c.args.parts.now in
    let is = c.deref.ensures.value
    ∙ route_is (λ r. r.items) c.parts.inside.routes.items S.routes (ap (λ (v : SetupView). v.routes) c.parts.view_is) c.args.route
    c.requires.known c.index.result.now c.index.ensures in
    adds_route (owned_by S c.args.owners.now) c.args.crossed.now c.add_crossed.new.crossed c.args.route c.args.walked c.deref.result.now is
    c.add_crossed.ensures c.requires.before c.if-route-walked-2.true
