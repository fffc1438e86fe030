use Rattle.std.proofs.Common.{◌≡◌, ◌++◌, take, drop}
use Rattle.mn_base.specs.Lines.{lines_of, text_of_lines}
use Rattle.changes.proofs.reading.copy_lines.Given as goal

-- the lines so far were copied, and those after them are left
abbrev pub invariant-lines : goal.invariant-lines
invariant-lines l = record {
  ahead : lines_of l.rest ≡ drop l.done (lines_of l.text);
  copied : l.to.items ≡ l.initial.to.items ++ text_of_lines (take l.done (lines_of l.text));
}
