use Rattle.std.proofs.Common.{rules}
use Rattle.report.specs.Moves.{moves_text}
use Rattle.report.proofs.moves_text.print_moves.Goals as goal

pub returns : goal.returns
unfolding moves_text
returns c = record { text = search rules }
