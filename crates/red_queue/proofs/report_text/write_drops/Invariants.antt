use Rattle.std.proofs.Common.{◌≡◌, ◌++◌}
use Rattle.std.specs.Prelude.{string_bytes}
use Rattle.red_queue.specs.Report.{drop_text, texts_below}
use Rattle.red_queue.proofs.report_text.write_drops.Given as goal

abbrev pub invariant-loop-packet : goal.invariant-loop-packet
invariant-loop-packet l = string_bytes l.text ≡ string_bytes l.initial.text ++ texts_below (drop_text l.fates) l.packet
