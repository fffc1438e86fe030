use Rattle.std.proofs.Common.{drop}
use Rattle.routes.specs.Searching.{Relaxes}
use Rattle.routes.proofs.search.Search.relax.Given as goal

abbrev pub invariant-loop-number : goal.invariant-loop-number
invariant-loop-number l = Relaxes l.graph l.initial.self l.self l.last (drop l.number-index l.row)
