use Rattle.std.proofs.Common.{take}
use Rattle.std.specs.List.{AllZip}
use Rattle.distill.specs.Distilled.{IsKept}
use Rattle.distill.proofs.links.kept_pipes.Given as goal

abbrev pub invariant-loop-link : goal.invariant-loop-link
invariant-loop-link l = AllZip (IsKept l.tick_ns) (take l.link-index l.links) l.pipes.items
