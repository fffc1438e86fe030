use Rattle.std.proofs.Common.{◌≡◌, length}
use Rattle.migrate.specs.Starting.{AreLaidOut, SameButPipes}
use Rattle.migrate.proofs.starting.lay_out.Given as goal

abbrev pub invariant-loop-pipe : goal.invariant-loop-pipe
invariant-loop-pipe l = record {
  laid : AreLaidOut l.fn.setup l.number l.shelves.items;
  same : SameButPipes l.fn.shelves.items l.shelves.items;
  met : length l.yielded ≡ l.number;
}
