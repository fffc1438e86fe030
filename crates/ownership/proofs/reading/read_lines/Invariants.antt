use Rattle.std.proofs.Common.{◌≡◌, ◌≤◌, ◌+◌, length}
use Rattle.mn_base.specs.Lines.{lines_of}
use Rattle.ownership.proofs.LinesRead.{HasRead}
use Rattle.ownership.proofs.reading.read_lines.Given as goal

-- the lines so far say the owners so far, and the others are left
abbrev pub invariant-lines : goal.invariant-lines
invariant-lines l = record {
  has : HasRead l.pipes l.cores l.number (lines_of l.text) (lines_of l.rest) l.owners.items;
  few : l.number + length l.rest ≤ 2 + length l.text;
  len : length l.owners.items ≡ l.pipes;
}

abbrev pub decreases-lines : goal.decreases-lines
decreases-lines l = length l.rest
