use Rattle.std.proofs.Common.{◌≡◌, length}
use Rattle.core_loop.proofs.Stocking.{AllHold}
use Rattle.core_loop.proofs.stores.stock.Given as goal

abbrev pub invariant-loop-payload : goal.invariant-loop-payload
invariant-loop-payload l = record {
  all : AllHold l.fn.setup l.fn.bytes.items l.index l.stores.items;
  met : length l.yielded ≡ l.index;
}
