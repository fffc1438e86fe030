use Rattle.std.proofs.Common.{◌≡◌, ◌+◌, length}
use Rattle.mn_base.specs.Lines.{lines_of}
use Rattle.changes.proofs.LinesRead.{IsReading}
use Rattle.changes.proofs.reading.read_lines.Given as goal

-- the lines so far say the changes so far, and the others are left
abbrev pub invariant-lines : goal.invariant-lines
invariant-lines l = record {
  reading : IsReading l.pipes (lines_of l.text) (lines_of l.rest) l.changes.items;
  number : l.number ≡ l.pipes + 2 + length l.changes.items;
  left : length l.changes.items + length (lines_of l.rest) ≡ length (lines_of l.text);
}

abbrev pub decreases-lines : goal.decreases-lines
decreases-lines l = length l.rest
