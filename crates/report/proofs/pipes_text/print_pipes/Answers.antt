use Rattle.std.proofs.Common.{rules}
use Rattle.report.specs.Pipes.{pipes_text}
use Rattle.report.proofs.pipes_text.print_pipes.Goals as goal

pub returns : goal.returns
unfolding pipes_text
returns c = record { text = search rules }
