use Rattle.std.proofs.Common.{◌≡◌, ◌<◌, All, ℕ, List, length, sym, ap, subst, ◌∙◌}
use Rattle.mn_base.specs.Ranges.{AreInRange}
use Rattle.topo.specs.declared.parts.Link.{Link}
use Rattle.routes.specs.declared.graph.Arc.{Arc}
use Rattle.distill.proofs.LinkLists.{All-links_at, length-arcs_of}
use Rattle.distill.proofs.meshing.pipe_from.Goals as goal

pub pipe_along-requires-clause-values : goal.pipe_along-requires-clause-values
pipe_along-requires-clause-values c =
    let count : length c.args.routes.now.graph.arcs ≡ length c.args.middle.now = ap (λ (arcs : List Arc). length arcs) c.requires.arcs
    ∙ length-arcs_of c.args.middle.now in
    let named = rw c.in-Some.is at c.in_ok-walk.ensures.named in
    let below : All (λ e. e < length c.args.middle.now) c.deref.result.now = subst
    (λ (walk : List ℕ). All (λ e. e < length c.args.middle.now) walk) (sym c.deref.ensures.value)
    (subst (λ n. All (λ e. e < n) c.in-Some.walk.items) count named) in
    subst (All (λ (l : Link). AreInRange l.bps l.latency_us l.queue l.ppm)) (sym (c.deref-2.ensures.value ∙ c.in_ok-links.ensures))
    (All-links_at (λ (l : Link). AreInRange l.bps l.latency_us l.queue l.ppm) c.args.middle.now c.deref.result.now c.requires.values below)
