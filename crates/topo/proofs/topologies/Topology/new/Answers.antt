use Rattle.std.proofs.Common.{◌≡◌, None}
use Rattle.topo.specs.Faults.{topo_fault}
use Rattle.topo.specs.Links.{links_of}
use Rattle.topo.specs.Nodes.{node_with}
use Rattle.topo.proofs.Valid.{valid_topology}
use Rattle.topo.proofs.topologies.Topology.new.Goals as goal

pub invariant_of-result : goal.invariant_of-result
invariant_of-result c =
    let no_fault : topo_fault c.args.nodes.items c.args.edges.items c.args.directed ≡ None = cc (c.in_ok-links.ensures.no_fault) in
    let made : c.in_ok-links.links.items ≡ links_of c.args.directed (node_with c.args.nodes.items) c.args.edges.items =
    cc (c.in_ok-links.ensures.links) in
    valid_topology c.args.nodes.items c.args.edges.items c.args.directed c.in_ok-links.links.items no_fault made
