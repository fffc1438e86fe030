use Rattle.parcel.specs.Owners.{owned_by}
use Rattle.parcel.proofs.LeastLatency.{IsSoFar}
use Rattle.parcel.proofs.crossed.crossed_of.Given as goal

abbrev pub invariant-loop-packet : goal.invariant-loop-packet
invariant-loop-packet l = IsSoFar (owned_by l.parts l.owners) l.packet-items l.packet-index l.crossed l.walked
