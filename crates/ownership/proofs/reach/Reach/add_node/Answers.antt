use Rattle.std.proofs.Common.{refl, arith}
use Rattle.mn_base.proofs.Members.{Among-index}
use Rattle.ownership.proofs.NodeAdded.{row_begun, row_more, node_added}
use Rattle.ownership.proofs.reach.Reach.add_node.Goals as goal

pub loop-pipe-init : goal.loop-pipe-init
loop-pipe-init c = record { nodes = refl; so_far = row_begun c.args.self.now.near c.args.row.now c.args.owners.now }

pub insert_unowned-requires : goal.insert_unowned-requires
insert_unowned-requires c = c.requires.row _ (Among-index c.args.row.now c.loop-pipe.pipe-index 0 c.loop-pipe-test.true)

pub loop-pipe-preserved : goal.loop-pipe-preserved
loop-pipe-preserved c = record {
  nodes = c.loop-pipe.invariant.nodes;
  so_far =
      row_more c.args.self.now.near c.args.row.now c.args.owners.now c.loop-pipe.pipe-index c.loop-pipe.self.near _ c.loop-pipe-test.true
      c.loop-pipe.invariant.so_far c.in_ok-insert_unowned.ensures;
}

pub returns : goal.returns
returns c =
    node_added c.args.node c.args.row.now c.args.owners.now c.args.self.now c.loop-pipe.self
    (record {
      marks = c.add.new.self;
      marks_are = c.loop-pipe.invariant.nodes;
      size = c.add.ensures.size;
      marked = c.add.ensures.added;
      count = c.loop-pipe.pipe-index;
      whole = omega arith;
      row_in = c.loop-pipe.invariant.so_far;
    })
