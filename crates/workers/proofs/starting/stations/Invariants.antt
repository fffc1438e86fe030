use Rattle.std.proofs.Common.{◌≡◌, length}
use Rattle.workers.specs.Starting.{AreAtStart}
use Rattle.workers.proofs.starting.stations.Given as goal

abbrev pub invariant-loop-store : goal.invariant-loop-store
invariant-loop-store l = record {
  have : AreAtStart l.fn.setup l.fn.stores.items l.number l.all.items;
  met : length l.yielded ≡ l.number;
}
