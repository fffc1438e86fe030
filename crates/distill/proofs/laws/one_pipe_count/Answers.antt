use Rattle.distill.proofs.PipeCounts.{one_pipe_count, pipes_are_counted}
use Rattle.distill.proofs.laws.one_pipe_count.Goals as goal

pub returns : goal.returns
returns c = record { one = one_pipe_count; length = pipes_are_counted }
