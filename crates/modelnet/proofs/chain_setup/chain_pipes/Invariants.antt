use Rattle.std.proofs.Common.{take}
use Rattle.std.specs.List.{AllZip}
use Rattle.modelnet.specs.Chain.{IsPipeOf}
use Rattle.modelnet.proofs.chain_setup.chain_pipes.Given as goal

abbrev pub invariant-loop-pipe : goal.invariant-loop-pipe
invariant-loop-pipe l = AllZip (IsPipeOf l.tick_ns) (take l.pipe-index l.pipes) l.params.items
