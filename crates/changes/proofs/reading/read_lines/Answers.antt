use Rattle.std.proofs.Common.{◌≡◌, ◌+◌, ◌-◌, List, ℕ, [], ◌∷◌, ◌++◌, length, sym, ap, subst, ◌∙◌, arith, length-append}
use Rattle.std.specs.Prelude.{option_copied, slice_get}
use Rattle.mn_base.specs.Lines.{lines_of}
use Rattle.changes.specs.declared.split.Change.{Change}
use Rattle.changes.proofs.LinesRead.{IsReading, one_read, first_fault_read}
use Rattle.changes.proofs.reading.read_lines.Goals as goal

-- a line is left, and those after it
pub returns-in-Err-clause-fault : goal.returns-in-Err-clause-fault
returns-in-Err-clause-fault c =
    first_fault_read c.args.pipes c.lines.number (lines_of c.args.text.now) (lines_of c.split_line.result.1.now) c.split_line.result.0.now
    c.lines.changes.items (option_copied c.last.result)
    (record {
      reading =
          subst (λ (ls : List (List ℕ)). IsReading c.args.pipes (lines_of c.args.text.now) ls c.lines.changes.items) c.split_line.ensures.lines
          c.lines.invariant.reading;
      number = c.lines.invariant.number;
      last_is = c.last.ensures.value ∙ ap (λ (cs : List Change). slice_get cs (length cs - 1)) c.as_slice.ensures.value;
    })
    c.in-Err.fault c.in-Err.ensures

pub lines-preserved : goal.lines-preserved
lines-preserved c =
    let longer : length c.push.new.self.items ≡ length c.lines.changes.items + 1 =
    ap length c.in_ok-push.ensures.items ∙ length-append c.lines.changes.items (c.in-Ok.change ∷ []) in
    let lines : length (lines_of c.lines.rest.now) ≡ length (c.split_line.result.0.now ∷ lines_of c.split_line.result.1.now) =
    ap length c.split_line.ensures.lines in
    record {
      reading =
          subst (λ (cs : List Change). IsReading c.args.pipes (lines_of c.args.text.now) (lines_of c.split_line.result.1.now) cs)
          (sym c.in_ok-push.ensures.items)
          (one_read c.args.pipes c.lines.number (lines_of c.args.text.now) (lines_of c.split_line.result.1.now) c.split_line.result.0.now
          c.lines.changes.items (option_copied c.last.result)
          (record {
            reading =
                subst (λ (ls : List (List ℕ)). IsReading c.args.pipes (lines_of c.args.text.now) ls c.lines.changes.items)
                c.split_line.ensures.lines c.lines.invariant.reading;
            number = c.lines.invariant.number;
            last_is = c.last.ensures.value ∙ ap (λ (cs : List Change). slice_get cs (length cs - 1)) c.as_slice.ensures.value;
          })
          c.in-Ok.change c.in-Ok.ensures.0 c.in-Ok.ensures.1);
      number = omega (arith, longer, c.lines.invariant.number);
      left = omega (arith, longer, lines, c.lines.invariant.left);
    }
