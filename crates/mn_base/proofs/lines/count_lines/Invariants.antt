use Rattle.std.proofs.Common.{◌≡◌, ◌+◌, ◌≤◌, length}
use Rattle.mn_base.specs.Lines.{lines_of}
use Rattle.mn_base.proofs.lines.count_lines.Given as goal

-- the lines so far, and those of what is left
abbrev pub invariant-lines : goal.invariant-lines
invariant-lines l = record {
  counted : l.count + length (lines_of l.rest) ≡ length (lines_of l.text);
  few : l.count + length l.rest ≤ length l.text;
}

abbrev pub decreases-lines : goal.decreases-lines
decreases-lines l = length l.rest
