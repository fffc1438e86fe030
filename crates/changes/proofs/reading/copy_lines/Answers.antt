use Rattle.std.proofs.Common.{List, ℕ, [], ◌∷◌, ◌++◌, ap, arith, sym, ◌∙◌}
use Rattle.mn_base.specs.Lines.{lines_of}
use Rattle.changes.proofs.Ahead.{byte_left, one_line_more, copied_more}
use Rattle.changes.proofs.reading.copy_lines.Goals as goal

pub split_line-requires : goal.split_line-requires
split_line-requires c = record { some = byte_left c.args.text.now c.lines.rest.now c.lines.done c.lines.invariant.ahead (omega arith) }

pub lines-preserved : goal.lines-preserved
lines-preserved c = record {
  ahead = one_line_more (lines_of c.args.text.now) _ _ c.lines.done (sym c.split_line.ensures.lines ∙ c.lines.invariant.ahead);
  copied =
      c.in_ok-push.ensures.items
      ∙ ap (λ (l : List ℕ). l ++ 10 ∷ []) c.in_ok-extend_from_slice.ensures.items
      ∙ copied_more c.args.to.now.items c.lines.to.items (lines_of c.args.text.now) _ _ c.lines.done
      (sym c.split_line.ensures.lines ∙ c.lines.invariant.ahead) c.lines.invariant.copied;
}
