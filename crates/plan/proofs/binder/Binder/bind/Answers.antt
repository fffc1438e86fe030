use Rattle.std.proofs.Common.{◌≡◌, ℕ, Result, sym, ap, ◌∙◌, subst, arith}
use Rattle.mn_base.specs.declared.causes.Unbound.{Unbound}
use Rattle.routes.specs.GraphView.{GraphView}
use Rattle.plan.specs.Binding.{ends_of}
use Rattle.std.specs.Prelude.{slice_index}
use Rattle.mn_base.specs.Times.{entry_tick_of}
use Rattle.plan.specs.Grounds.{Grounds}
use Rattle.plan.specs.Router.{bindings_of, IsRouterAnswer}
use Rattle.plan.proofs.Bindings.{ends_below}
use Rattle.plan.proofs.OneAnswer.{unbound_by_ends, unbound_by_route, bound_by_route}
use Rattle.plan.proofs.binder.Binder.bind.Goals as goal

pub returns-in-Err-clause-answer : goal.returns-in-Err-clause-answer
returns-in-Err-clause-answer c =
    unbound_by_ends c.args.self.now (bindings_of c.args.router.now.uses.items) c.args.number c.args.packet.now c.in-Err.cause
    (ap (ends_of c.args.self.now.nodes c.args.self.now.link_type) (sym c.as_slice.ensures.lent) ∙ sym c.in-Err.ensures.ends)

pub find-requires-clause-source : goal.find-requires-clause-source
find-requires-clause-source c =
    let low = (ends_below c.args.self.now.nodes c.args.self.now.link_type c.args.packet.now.bytes c.in-Ok.ends.0 c.in-Ok.ends.1
    (ap (ends_of c.args.self.now.nodes c.args.self.now.link_type) (sym c.as_slice.ensures.lent) ∙ sym c.in-Ok.ensures.ends)).0 in
    let nodes = c.in-Ok.ensures.valid.nodes in
    let same : c.args.router.now.searches.nodes ≡ c.args.self.now.graph.nodes = ap (λ (g : GraphView). g.nodes) c.requires.graph in
    omega (arith, low, nodes, same)

pub find-requires-clause-destination : goal.find-requires-clause-destination
find-requires-clause-destination c =
    let low = (ends_below c.args.self.now.nodes c.args.self.now.link_type c.args.packet.now.bytes c.in-Ok.ends.0 c.in-Ok.ends.1
    (ap (ends_of c.args.self.now.nodes c.args.self.now.link_type) (sym c.as_slice.ensures.lent) ∙ sym c.in-Ok.ensures.ends)).1 in
    let nodes = c.in-Ok.ensures.valid.nodes in
    let same : c.args.router.now.searches.nodes ≡ c.args.self.now.graph.nodes = ap (λ (g : GraphView). g.nodes) c.requires.graph in
    omega (arith, low, nodes, same)

pub returns-in-Err-2-clause-answer : goal.returns-in-Err-2-clause-answer
returns-in-Err-2-clause-answer c =
    unbound_by_route c.args.self.now (bindings_of c.args.router.now.uses.items) (bindings_of c.find.new.self.uses.items) c.args.number
    c.args.packet.now c.in-Ok.ends.0 c.in-Ok.ends.1 c.in-Err-2.cause
    (ap (ends_of c.args.self.now.nodes c.args.self.now.link_type) (sym c.as_slice.ensures.lent) ∙ sym c.in-Ok.ensures.ends)
    (subst (λ (r : Result ℕ Unbound). IsRouterAnswer c.args.self.now.graph.arcs (bindings_of c.args.router.now.uses.items) c.in-Ok.ends.0 c.in-Ok.ends.1
    (bindings_of c.find.new.self.uses.items) r) c.in-Err-2.is
    (subst (λ (g : GraphView). IsRouterAnswer g.arcs (bindings_of c.args.router.now.uses.items) c.in-Ok.ends.0 c.in-Ok.ends.1
    (bindings_of c.find.new.self.uses.items) c.in_ok-route.field-0) c.requires.graph c.in_ok-route.ensures.answers))

pub returns-clause-answer : goal.returns-clause-answer
returns-clause-answer c =
    bound_by_route c.args.self.now (bindings_of c.args.router.now.uses.items) (bindings_of c.find.new.self.uses.items) c.args.number
    c.args.packet.now c.in-Ok.ends.0 c.in-Ok.ends.1 c.in-Ok-2.route c.entry_tick.result c.entry.result
    (ap (ends_of c.args.self.now.nodes c.args.self.now.link_type) (sym c.as_slice.ensures.lent) ∙ sym c.in-Ok.ensures.ends)
    (subst (λ (r : Result ℕ Unbound). IsRouterAnswer c.args.self.now.graph.arcs (bindings_of c.args.router.now.uses.items) c.in-Ok.ends.0 c.in-Ok.ends.1
    (bindings_of c.find.new.self.uses.items) r) c.in-Ok-2.is
    (subst (λ (g : GraphView). IsRouterAnswer g.arcs (bindings_of c.args.router.now.uses.items) c.in-Ok.ends.0 c.in-Ok.ends.1
    (bindings_of c.find.new.self.uses.items) c.in_ok-route.field-0) c.requires.graph c.in_ok-route.ensures.answers))
    (c.entry_tick.ensures.value ∙ ap (λ (b : Grounds). entry_tick_of b.base_ns b.tick_ns c.args.packet.now.time_ns) c.self.view_is)
    (c.entry.ensures.value ∙ ap (λ (b : Grounds). slice_index b.entries c.in-Ok.ends.0) c.self.view_is)
