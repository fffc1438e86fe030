use Rattle.std.proofs.Common.{◌≡◌, Some, sym, ◌∙◌}
use Rattle.std.proofs.lemmas.Result.{IfErr-weaker}
use Rattle.std.specs.Ordering.{nat_cmp}
use Rattle.std.specs.BTreeMap.{get}
use Rattle.topo.specs.Faults.{topo_fault, link_count_fault}
use Rattle.topo.proofs.Refusals.{IfFault-weaker}
use Rattle.topo.proofs.Valid.{AreFaultlessNodes, edges_are_first, links_are_last}
use Rattle.topo.proofs.topologies.checked_links.Goals as goal

pub returns-in-Some-first_edge_fault-clause-fault :
    goal.returns-in-Some-first_edge_fault-clause-fault
returns-in-Some-first_edge_fault-clause-fault c =
    let find = get nat_cmp c.in_ok-numbers.numbers in
    let are : AreFaultlessNodes find c.args.nodes.now = record {
      counts = sym c.in_default.ensures;
      ids = c.in_ok-numbers.ensures.distinct;
      addresses = sym c.in_ok-fault.ensures ∙ c.in_default-2.is;
      numbers = c.in_ok-numbers.ensures.numbers;
    } in
    edges_are_first find c.args.nodes.now c.args.edges.now c.args.directed _ are (sym c.in-Some-first_edge_fault.ensures)

pub returns-clause-fault : goal.returns-clause-fault
returns-clause-fault c =
    let find = get nat_cmp c.in_ok-numbers.numbers in
    let are : AreFaultlessNodes find c.args.nodes.now = record {
      counts = sym c.in_default.ensures;
      ids = c.in_ok-numbers.ensures.distinct;
      addresses = sym c.in_ok-fault.ensures ∙ c.in_default-2.is;
      numbers = c.in_ok-numbers.ensures.numbers;
    } in
    IfErr-weaker c.links_of.result _ _
    (λ e. IfFault-weaker e
    (λ f. link_count_fault c.args.directed find c.args.edges.now ≡ Some f)
    (λ f. topo_fault c.args.nodes.now c.args.edges.now c.args.directed ≡ Some f)
    (λ f here. links_are_last find c.args.nodes.now c.args.edges.now c.args.directed (Some f) are
    (sym c.in_default-first_edge_fault.ensures) here))
    c.links_of.ensures.fault
