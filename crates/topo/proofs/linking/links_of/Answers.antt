use Rattle.std.proofs.Common.{arith}
use Rattle.std.specs.Ordering.{nat_cmp}
use Rattle.std.specs.BTreeMap.{get}
use Rattle.topo.proofs.InRange.{faultless_at}
use Rattle.topo.proofs.TooManyLinks.{too_many_links}
use Rattle.topo.proofs.linking.links_of.Goals as goal

pub push_links-requires : goal.push_links-requires
push_links-requires c =
    (faultless_at (get nat_cmp c.args.numbers.now) c.args.edges.now c.loop-edge.edge-index _ c.requires c.loop-edge-test.true).values

pub returns-then-len-gt-LINKS_MAX-clause-fault : goal.returns-then-len-gt-LINKS_MAX-clause-fault
returns-then-len-gt-LINKS_MAX-clause-fault c =
    too_many_links c.args.directed (get nat_cmp c.args.numbers.now) c.args.edges.now c.loop-edge.edge-index _
    c.loop-edge-test.true c.loop-edge.invariant.links c.in_ok-push_links.ensures (omega arith)
