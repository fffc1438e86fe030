use Rattle.std.proofs.Common.{take}
use Rattle.std.specs.List.{AllZip}
use Rattle.modelnet.specs.RedRun.{IsRedPipeOf}
use Rattle.modelnet.proofs.red_setup.red_pipes.Given as goal

abbrev pub invariant-loop-pipe : goal.invariant-loop-pipe
invariant-loop-pipe l = AllZip (IsRedPipeOf l.tick_ns) (take l.pipe-index l.pipes) l.params.items
