use Rattle.std.proofs.Common.{◌<◌, take, All}
use Rattle.mn_words.specs.declared.order.MoveSpec.{MoveSpec}
use Rattle.modelnet.proofs.migrate_run.first_bad_move.Given as goal

abbrev pub invariant-loop-number : goal.invariant-loop-number
invariant-loop-number l = All (λ (m : MoveSpec). m.pipe < l.pipes) (take l.number l.moves)
