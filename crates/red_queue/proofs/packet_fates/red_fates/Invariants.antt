use Rattle.std.proofs.Common.{◌≡◌, map, take}
use Rattle.std.specs.List.{enumerate_from}
use Rattle.red_queue.specs.Fates.{red_fate_after}
use Rattle.red_queue.proofs.packet_fates.red_fates.Given as goal

abbrev pub invariant-loop-visit : goal.invariant-loop-visit
invariant-loop-visit l = l.fates.items ≡ map (red_fate_after (take l.visit-index l.visits)) (enumerate_from 0 l.fn.setup.packets)
