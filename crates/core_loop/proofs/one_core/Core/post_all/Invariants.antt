use Rattle.core_loop.specs.Turns.{StandAt, OwesPost}
use Rattle.core_loop.specs.Trading.{Swept}
use Rattle.core_loop.proofs.one_core.Core.post_all.Given as goal

abbrev pub invariant-loop-other : goal.invariant-loop-other
invariant-loop-other g l = record {
  stand : StandAt g.P.Ports.setup g.P.Ports.core g.P.Ports.posted g.P.Ports.taken l.ports l.self;
  swept : Swept g.P.Ports.keeps g.P.Ports.busy OwesPost l.initial.ports l.initial.self l.ports l.self l.other l.sweep;
}
