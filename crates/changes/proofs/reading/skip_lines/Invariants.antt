use Rattle.std.proofs.Common.{◌≡◌, drop}
use Rattle.mn_base.specs.Lines.{lines_of}
use Rattle.changes.proofs.reading.skip_lines.Given as goal

-- the lines of what is left are those after the lines that were skipped
abbrev pub invariant-lines : goal.invariant-lines
invariant-lines l = lines_of l.rest ≡ drop l.done (lines_of l.text)
