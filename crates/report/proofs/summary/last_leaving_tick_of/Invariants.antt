use Rattle.std.proofs.Common.{◌≡◌, take}
use Rattle.report.specs.Summary.{last_leaving_tick}
use Rattle.report.proofs.summary.last_leaving_tick_of.Given as goal

abbrev pub invariant-loop-left : goal.invariant-loop-left
invariant-loop-left l = l.last ≡ last_leaving_tick (take l.left-index l.leaving)
