use Rattle.std.proofs.Common.{refl}
use Rattle.modelnet.proofs.Chains.{plans-more}
use Rattle.modelnet.proofs.chain_setup.packet_plans.Goals as goal

pub loop-number-preserved : goal.loop-number-preserved
loop-number-preserved c =
    rw (
      c.in_ok-push.ensures.items,
      c.entry_tick.ensures.value,
      plans-more c.args.base_ns c.args.tick_ns c.args.packets.now c.loop-number.number c.index-packets-number.result
          c.loop-number-test.true,
      c.loop-number.invariant,
      ← c.index-packets-number.is,
    ) refl
