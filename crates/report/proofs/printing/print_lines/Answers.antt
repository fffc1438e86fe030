use Rattle.std.proofs.Common.{rules}
use Rattle.report.specs.Report.{report_lines}
use Rattle.report.proofs.printing.print_lines.Goals as goal

pub returns : goal.returns
unfolding report_lines
returns c = search rules
