use Rattle.routes.specs.Search.{lists_of}
use Rattle.routes.proofs.IncomingRows.{HasFirst}
use Rattle.routes.proofs.incoming.Incoming.new.Given as goal

abbrev pub invariant-loop-number : goal.invariant-loop-number
invariant-loop-number l = HasFirst l.graph l.number (lists_of l.rows.items)
