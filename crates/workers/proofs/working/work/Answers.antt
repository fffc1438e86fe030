use Rattle.workers.proofs.GoingOn.{goes-on}
use Rattle.workers.proofs.working.work.Goals as goal

pub loop-turn-preserved-in-Moved : goal.loop-turn-preserved-in-Moved
loop-turn-preserved-in-Moved g c = record { can_next = tt; is_finite = tt; goes = goes-on _ _ _ c.loop-turn.invariant.goes c.turn.ensures.goes }

pub loop-turn-preserved : goal.loop-turn-preserved
loop-turn-preserved g c = record { can_next = tt; is_finite = tt; goes = goes-on _ _ _ c.loop-turn.invariant.goes c.turn.ensures.goes }

pub returns-in-Done : goal.returns-in-Done
returns-in-Done g c = (goes-on _ _ _ c.loop-turn.invariant.goes c.turn.ensures.goes).comes

pub returns-in-NoMemory : goal.returns-in-NoMemory
returns-in-NoMemory g c = (goes-on _ _ _ c.loop-turn.invariant.goes c.turn.ensures.goes).comes
