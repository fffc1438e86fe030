use Rattle.std.proofs.Common.{◌≡◌, length}
use Rattle.mn_words.specs.Moves.{can_be_made}
use Rattle.mn_words.proofs.moves.can_be_made.Given as goal

-- whether the moves that are left can be made, from the last window on, is whether all can
abbrev pub invariant-moves : goal.invariant-moves
invariant-moves l = can_be_made l.cores 0 l.moves ≡ can_be_made l.cores l.window l.left

abbrev pub decreases-moves : goal.decreases-moves
decreases-moves l = length l.left
