use Rattle.std.proofs.Common.{sym, ◌∙◌, arith}
use Rattle.changes.proofs.Ahead.{byte_left, one_line_more}
use Rattle.mn_base.specs.Lines.{lines_of}
use Rattle.changes.proofs.reading.skip_lines.Goals as goal

pub split_line-requires : goal.split_line-requires
split_line-requires c = record { some = byte_left c.args.text.now c.lines.rest.now c.lines.done c.lines.invariant (omega arith) }

pub lines-preserved : goal.lines-preserved
lines-preserved c =
    one_line_more (lines_of c.args.text.now) _ _ c.lines.done (sym c.split_line.ensures.lines ∙ c.lines.invariant)
