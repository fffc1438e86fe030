use Rattle.plan.proofs.Arcs.{arcs_among}
use Rattle.plan.proofs.parts.graph_of.Goals as goal

pub new-requires-clause-arcs : goal.new-requires-clause-arcs
new-requires-clause-arcs c =
    arcs_among c.args.distilled.now c.nodes.result c.in_ok-arcs.arcs.items c.pipes.result.now c.pipes.ensures.valid c.pipes.ensures.lent
    c.nodes.ensures.value c.in_ok-arcs.ensures
