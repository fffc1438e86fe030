use Rattle.std.proofs.Common.{◌≡◌, ◌++◌, take, string_bytes}
use Rattle.mn_base.specs.Lines.{text_of_lines}
use Rattle.ownership.specs.Texts.{pipe_lines}
use Rattle.ownership.proofs.printing.write_pipe_lines.Given as goal

-- the lines so far
abbrev pub invariant-loop-pipe : goal.invariant-loop-pipe
invariant-loop-pipe l = string_bytes l.text ≡ string_bytes l.initial.text ++ text_of_lines (pipe_lines 0 (take l.pipe l.owners))
