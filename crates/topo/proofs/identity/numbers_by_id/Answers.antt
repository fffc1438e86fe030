use Rattle.std.proofs.Common.{sym, get_or}
use Rattle.std.specs.Ordering.{nat_cmp}
use Rattle.std.specs.BTreeMap.{get}
use Rattle.topo.specs.Nodes.{no_node}
use Rattle.topo.proofs.Firsts.{first_fault_here, first_fault_later}
use Rattle.topo.proofs.SeenIds.{id_seen, id_new, numbers_more}
use Rattle.topo.proofs.identity.numbers_by_id.Goals as goal

pub returns-then-contains_key-clause-fault : goal.returns-then-contains_key-clause-fault
returns-then-contains_key-clause-fault c =
    first_fault_here _ c.args.nodes.now c.loop-n.n no_node _ _ c.loop-n-test.true c.loop-n.invariant.so_far
    (id_seen c.args.nodes.now c.loop-n.n (get_or c.args.nodes.now c.loop-n.n no_node) _ (c.loop-n.invariant.numbers _)
    (sym c.if-contains_key.ensures))

pub loop-n-preserved : goal.loop-n-preserved
loop-n-preserved c = record {
  numbers =
      λ q. numbers_more (get nat_cmp c.loop-n.numbers) (get nat_cmp c.insert.new.self) c.args.nodes.now c.loop-n.n no_node q
      c.loop-n-test.true (c.in_ok-insert.ensures.updates.0 q) (c.loop-n.invariant.numbers q) (sym c.if-contains_key.ensures);
  so_far =
      first_fault_later _ c.args.nodes.now c.loop-n.n no_node _ c.loop-n-test.true c.loop-n.invariant.so_far
      (id_new c.args.nodes.now c.loop-n.n (get_or c.args.nodes.now c.loop-n.n no_node) _ (c.loop-n.invariant.numbers _) (sym c.if-contains_key.ensures));
}
