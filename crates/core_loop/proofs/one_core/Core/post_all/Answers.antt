use Rattle.std.proofs.Common.{◌+◌, sym, subst}
use Rattle.core_loop.specs.declared.round.Sweep.{Sweep}
use Rattle.core_loop.specs.Turns.{OwesPost}
use Rattle.core_loop.specs.Trading.{Swept}
use Rattle.core_loop.proofs.Sweeps.{swept-more}
use Rattle.core_loop.proofs.one_core.Core.post_all.Goals as goal

pub loop-other-preserved : goal.loop-other-preserved
loop-other-preserved g c = record {
  stand = c.post_one.ensures.stand;
  swept =
      subst (λ (s : Sweep).
      Swept g.P.Ports.keeps g.P.Ports.busy OwesPost c.args.ports.now c.args.self.now c.post_one.new.ports c.post_one.new.self
      (c.loop-other.other + 1) s)
      (sym c.and-sweep.ensures)
      (swept-more g.met.P.Ports.keeps_trans g.met.P.Ports.keeps_refl c.loop-other.invariant.swept c.post_one.result
      c.post_one.ensures.keeps c.post_one.ensures.comes);
}
