use Rattle.std.proofs.Common.{refl}
use Rattle.std.specs.Prelude.{string_bytes}
use Rattle.ownership.proofs.PrintingSteps.{printed_next}
use Rattle.ownership.proofs.printing.write_pipe_lines.Goals as goal

pub loop-pipe-preserved : goal.loop-pipe-preserved
loop-pipe-preserved c =
    printed_next (string_bytes c.args.text.now) (string_bytes c.loop-pipe.text) _ c.args.owners.now c.loop-pipe.pipe _ c.loop-pipe-test.true refl
    c.loop-pipe.invariant c.in_ok-write_pipe_line.ensures
