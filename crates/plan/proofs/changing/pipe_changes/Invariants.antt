use Rattle.std.proofs.Common.{take}
use Rattle.std.specs.List.{AllZip}
use Rattle.plan.specs.Setups.{IsChangeTo}
use Rattle.plan.proofs.changing.pipe_changes.Given as goal

-- the changes so far are made
abbrev pub invariant-loop-change : goal.invariant-loop-change
invariant-loop-change l = AllZip (IsChangeTo l.tick_ns) (take l.change-index l.changes) l.made.items
