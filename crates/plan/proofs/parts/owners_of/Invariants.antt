use Rattle.std.proofs.Common.{◌≡◌, take}
use Rattle.plan.proofs.parts.owners_of.Given as goal

-- the owners so far
abbrev pub invariant-loop-pipe : goal.invariant-loop-pipe
invariant-loop-pipe l = l.owners.items ≡ take l.pipe l.directory.owners
