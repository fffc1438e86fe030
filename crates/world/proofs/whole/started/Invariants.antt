use Rattle.std.proofs.Common.{◌≡◌, length}
use Rattle.world.specs.Starting.{CoresStarted}
use Rattle.world.proofs.whole.started.Given as goal

abbrev pub invariant-loop-store : goal.invariant-loop-store
invariant-loop-store l = record {
  have : CoresStarted l.fn.setup l.fn.stores.items l.number l.cores.items;
  met : length l.yielded ≡ l.number;
}
