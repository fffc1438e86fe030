use Rattle.std.proofs.Common.{◌≡◌, replicate}
use Rattle.core_loop.specs.CoreView.{no_peer}
use Rattle.core_loop.proofs.one_core.idle_peers.Given as goal

abbrev pub invariant-loop-core : goal.invariant-loop-core
invariant-loop-core l = l.peers.items ≡ replicate l._core no_peer
