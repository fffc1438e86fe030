use Rattle.std.proofs.Common.{sym, ap, ◌∙◌, subst}
use Rattle.std.proofs.lemmas.List.{take_all}
use Rattle.std.specs.List.{AllPairs}
use Rattle.std.specs.Ordering.{nat_cmp}
use Rattle.std.specs.BTreeMap as tree
use Rattle.topo.specs.Topologies.{DifferInAddress}
use Rattle.ip_bind.specs.Books.{node_with_address}
use Rattle.ip_bind.proofs.Books.{get-entries, node_skipped, node_written}
use Rattle.ip_bind.proofs.book.AddressBook.new.Goals as goal
use Rattle.ip_bind.proofs.book.AddressBook.new.Goals.{in-Some+in_ok-insert, in_default}

pub loop-n-preserved : goal.loop-n-preserved
loop-n-preserved c q =
    let nodes = c.nodes-node-items.result.now in
    let differ : AllPairs DifferInAddress nodes =
    subst (AllPairs DifferInAddress) (sym c.nodes-node-items.ensures.lent) c.nodes-node-items.ensures.valid.addresses in
    elim c.match-node.branch [
      | in-Some+in_ok-insert w ↦ ap (λ m. tree.get nat_cmp m q) w.nodes-is
          ∙ node_written nodes c.loop-n.n w.in-Some.address q differ c.loop-n-test.true w.in-Some.is (c.loop-n.invariant q)
          (w.in_ok-insert.ensures.updates.0 q)
      | in_default w ↦ ap (λ m. tree.get nat_cmp m q) w.nodes-is ∙ c.loop-n.invariant q
          ∙ node_skipped nodes c.loop-n.n q c.loop-n-test.true w.in_default.is
    ]

pub returns : goal.returns
returns c q =
    get-entries c.loop-n.nodes q
    ∙ c.loop-n.invariant q
    ∙ ap (λ xs. node_with_address xs q)
    (take_all c.loop-n.n c.nodes-node-items.result.now c.loop-n-test.false ∙ c.nodes-node-items.ensures.lent)
