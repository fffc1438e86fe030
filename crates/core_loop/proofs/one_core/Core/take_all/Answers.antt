use Rattle.std.proofs.Common.{◌+◌, sym, subst}
use Rattle.core_loop.specs.declared.round.Sweep.{Sweep}
use Rattle.core_loop.specs.Turns.{OwesTake}
use Rattle.core_loop.specs.Trading.{Swept}
use Rattle.core_loop.proofs.Rounds.{takes-then}
use Rattle.core_loop.proofs.Sweeps.{swept-more}
use Rattle.core_loop.proofs.one_core.Core.take_all.Goals as goal

pub loop-other-preserved : goal.loop-other-preserved
loop-other-preserved g c = record {
  stand = c.take_one.ensures.stand;
  only = takes-then c.args.self.now c.loop-other.self c.take_one.new.self c.loop-other.invariant.only c.take_one.ensures.only;
  swept =
      subst (λ (s : Sweep).
      Swept g.P.Ports.keeps g.P.Ports.empty OwesTake c.args.ports.now c.args.self.now c.take_one.new.ports c.take_one.new.self
      (c.loop-other.other + 1) s)
      (sym c.and-sweep.ensures)
      (swept-more g.met.P.Ports.keeps_trans g.met.P.Ports.keeps_refl c.loop-other.invariant.swept _ c.take_one.ensures.keeps
      c.in_ok-take_one.ensures.comes);
}
