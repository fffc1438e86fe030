use Rattle.std.proofs.Common.{◌≡◌, take}
use Rattle.modelnet.specs.Chain.{plans_of}
use Rattle.modelnet.proofs.chain_setup.packet_plans.Given as goal

abbrev pub invariant-loop-number : goal.invariant-loop-number
invariant-loop-number l = l.plans.items ≡ plans_of l.base_ns l.tick_ns (take l.number l.packets)
