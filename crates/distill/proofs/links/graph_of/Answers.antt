use Rattle.std.proofs.Common.{All, take, sym, subst}
use Rattle.std.proofs.lemmas.List.Elements.{All-take}
use Rattle.topo.specs.Topologies.{IsLink}
use Rattle.routes.specs.GraphView.{IsArcAmong}
use Rattle.distill.proofs.LinkLists.{arcs_are_among}
use Rattle.distill.proofs.links.graph_of.Goals as goal

pub new-requires-clause-arcs : goal.new-requires-clause-arcs
new-requires-clause-arcs c =
    subst (All (IsArcAmong c.args.nodes)) (sym c.loop-link.invariant)
    (arcs_are_among c.args.nodes (take c.loop-link.link-index c.args.links.now)
    (All-take (IsLink c.args.nodes) c.loop-link.link-index c.args.links.now c.requires.links))
