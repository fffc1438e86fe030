use Rattle.std.proofs.Common.{rules}
use Rattle.report.specs.Summary.{summary_text}
use Rattle.report.proofs.summary.print_summary.Goals as goal

pub returns : goal.returns
unfolding summary_text
returns c = record { text = search rules }
