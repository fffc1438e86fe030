use Rattle.core_loop.specs.Turns.{StandAt, OwesTake}
use Rattle.core_loop.specs.Trading.{OnlyTakes, Swept}
use Rattle.core_loop.proofs.one_core.Core.take_all.Given as goal

abbrev pub invariant-loop-other : goal.invariant-loop-other
invariant-loop-other g l = record {
  stand : StandAt g.P.Ports.setup g.P.Ports.core g.P.Ports.posted g.P.Ports.taken l.ports l.self;
  only : OnlyTakes l.initial.self l.self;
  swept : Swept g.P.Ports.keeps g.P.Ports.empty OwesTake l.initial.ports l.initial.self l.ports l.self l.other l.sweep;
}
