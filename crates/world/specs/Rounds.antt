-- Whether all cores of a round were done.
use Rattle.std.specs.Prelude.{Bool, false}
use Rattle.core_loop.specs.declared.turn.Turn.{Turn}
use Rattle.core_loop.specs.declared.turn.Turn.TheVariants.{Moved, Waiting, Done, NoMemory}

-- all are done still, where this turn answered so
abbrev pub still_all : Bool → Turn → Bool
still_all all Done = all
still_all all Moved = false
still_all all (Waiting on) = false
still_all all NoMemory = false
