use Rattle.migrate.proofs.Carried.{AreBetween, carry-can, carried}
use Rattle.migrate.proofs.ShelfSteps.{get-at}
use Rattle.migrate.proofs.moving.carry.Goals as goal
use Rattle.migrate.proofs.moving.carry.Goals.{After-index_mut-2}

pub give-requires : goal.give-requires
give-requires c = λ x m.
    c.requires.routed c.index_mut.result.now x
    (get-at c.args.shelves.now.items c.args.giver c.index_mut.result.now c.requires.giver c.index_mut.ensures.value) m

-- the two cores, as they are read one after the other
between : (c : After-index_mut-2)
    → AreBetween c.args.setup.now c.args.pipe c.args.giver c.args.taker c.args.shelves.now.items c.give.new.self c.in_ok-load.load
    c.index_mut-2.result.now
between c = record {
  from = c.requires.giver;
  to = c.requires.taker;
  apart = c.requires.other;
  was = c.index_mut.result.now;
  was_read = c.index_mut.ensures.value;
  gives = c.in_ok-load.ensures;
  taker_read = c.index_mut-2.ensures.value;
}

pub receive-requires : goal.receive-requires
receive-requires c = carry-can (between (goal.at.receive-requires c).After-index_mut-2) c.requires.alone

pub returns : goal.returns
returns c = carried (between (goal.at.returns c).After-index_mut-2) c.in_ok-receive.ensures
