use Rattle.std.proofs.Common.{◌++◌, ap, ◌∙◌}
use Rattle.std.specs.Prelude.{string_bytes}
use Rattle.distill.specs.declared.pipes.DistilledPipe.{DistilledPipe}
use Rattle.report.specs.Pipes.{distilled_line}
use Rattle.report.proofs.NumberedLines.{lines_next}
use Rattle.report.proofs.pipes_text.write_distilled_lines.Goals as goal

pub loop-number-preserved : goal.loop-number-preserved
loop-number-preserved c =
    lines_next (distilled_line c.args.nodes.now) c.args.pipes.now c.loop-number.number c.index-pipes-number.result
    (string_bytes c.args.text.now) (string_bytes c.loop-number.text) _ c.loop-number-test.true c.loop-number.invariant
    (c.in_ok-write_distilled_line.ensures
    ∙ ap (λ (pipe : DistilledPipe). string_bytes c.loop-number.text ++ distilled_line c.args.nodes.now c.loop-number.number pipe) c.index-pipes-number.is)
