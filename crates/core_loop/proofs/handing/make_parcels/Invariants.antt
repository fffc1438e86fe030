use Rattle.core_loop.proofs.RoundParcels.{IsHanding}
use Rattle.core_loop.proofs.handing.make_parcels.Given as goal

abbrev pub invariant-loop-other : goal.invariant-loop-other
invariant-loop-other l = IsHanding l.number l.initial.notes.items l.least l.initial.peers.items l.other l.peers.items l.notes.items
