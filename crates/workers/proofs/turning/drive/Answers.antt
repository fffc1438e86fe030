use Rattle.workers.proofs.Places.{all-stay_same, all-stay_on}
use Rattle.workers.proofs.turning.drive.Goals as goal

pub loop-round-init : goal.loop-round-init
loop-round-init g c = record { can_next = tt; is_finite = tt; stays = all-stay_same c.args.places.now }

pub loop-round-preserved-in-Moved : goal.loop-round-preserved-in-Moved
loop-round-preserved-in-Moved g c = record {
  can_next = tt;
  is_finite = tt;
  stays = all-stay_on c.args.places.now c.loop-round.places c.turn_here.new.places c.loop-round.invariant.stays c.turn_here.ensures.stays;
}

pub loop-round-preserved : goal.loop-round-preserved
loop-round-preserved g c = record {
  can_next = tt;
  is_finite = tt;
  stays = all-stay_on c.args.places.now c.loop-round.places c.turn_here.new.places c.loop-round.invariant.stays c.turn_here.ensures.stays;
}

pub returns-in-Done-clause-stays : goal.returns-in-Done-clause-stays
returns-in-Done-clause-stays g c =
    all-stay_on c.args.places.now c.loop-round.places c.turn_here.new.places c.loop-round.invariant.stays c.turn_here.ensures.stays

pub returns-in-NoMemory-clause-stays : goal.returns-in-NoMemory-clause-stays
returns-in-NoMemory-clause-stays g c =
    all-stay_on c.args.places.now c.loop-round.places c.turn_here.new.places c.loop-round.invariant.stays c.turn_here.ensures.stays
