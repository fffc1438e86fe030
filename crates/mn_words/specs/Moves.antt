-- What a MOVE says, and which moves can be made. A text is the list of its bytes.
use Rattle.std.specs.Prelude.{ℕ, ◌-◌, Bool, true, ◌&&◌, nat_le, nat_lt, List, [], ◌∷◌, Option, Some, None, if◌then◌else◌}
use Rattle.mn_base.specs.declared.limits.TheConstants.{CORES_MAX, MOVES_MAX, PIPES_MAX}
use Rattle.mn_base.specs.Decimal.{decimal_of}
use Rattle.mn_words.specs.declared.order.MoveSpec.{MoveSpec}
use Rattle.mn_words.specs.Pipes.{few_of}
use Rattle.mn_words.specs.Steps.{◌>>=◌}
use Rattle.mn_words.specs.Values.{number_within, colon_parts}

-- the move of three parts: the window before which it is made, the pipe, and the core that it goes to
unfoldable pub move_of_parts : List (List ℕ) → Option MoveSpec
move_of_parts (first ∷ second ∷ third ∷ []) = do
  window ← decimal_of first
  pipe ← number_within 0 (PIPES_MAX - 1) second
  core ← number_within 0 (CORES_MAX - 1) third
  Some (record { window = window; pipe = pipe; core = core })
move_of_parts parts = None

unfoldable pub move_spec_of : List ℕ → Option MoveSpec
move_spec_of word = move_of_parts (colon_parts word)

-- of so many cores each move names one, and the windows don't fall from move to move, from that window on
unfoldable pub can_be_made : ℕ → ℕ → List MoveSpec → Bool
can_be_made cores window [] = true
can_be_made cores window (move ∷ moves) = nat_le window move.window && nat_lt move.core cores && can_be_made cores move.window moves

-- the moves of these words, of which there are at most `MOVES_MAX`
unfoldable pub moves_of : ℕ → List (List ℕ) → Option (List MoveSpec)
moves_of cores words = do
  moves ← few_of MOVES_MAX move_spec_of words
  if can_be_made cores 0 moves then Some moves else None
