use Rattle.std.proofs.Common.{◌≡◌, ◌++◌}
use Rattle.std.specs.Prelude.{string_bytes}
use Rattle.red_queue.specs.Report.{pipe_text, texts_below}
use Rattle.red_queue.proofs.report_text.write_pipes.Given as goal

abbrev pub invariant-loop-pipe : goal.invariant-loop-pipe
invariant-loop-pipe l = string_bytes l.text ≡ string_bytes l.initial.text ++ texts_below (pipe_text l.visits) l.pipe
