use Rattle.std.proofs.Common.{◌≡◌, map, take, Some}
use Rattle.ownership.proofs.reading.all_owned.Given as goal

-- the owners so far are all there
abbrev pub invariant-loop-pipe : goal.invariant-loop-pipe
invariant-loop-pipe l = map (λ core. Some core) l.cores.items ≡ take l.pipe l.owners
