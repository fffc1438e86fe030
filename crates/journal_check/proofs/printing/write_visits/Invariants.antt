use Rattle.std.proofs.Common.{◌≡◌, ◌++◌, take}
use Rattle.std.specs.Prelude.{string_bytes}
use Rattle.std.specs.List.{flat_map}
use Rattle.journal_check.specs.Texts.{visit_line}
use Rattle.journal_check.proofs.printing.write_visits.Given as goal

abbrev pub invariant-loop-visit : goal.invariant-loop-visit
invariant-loop-visit l = string_bytes l.text ≡ string_bytes l.initial.text ++ flat_map visit_line (take l.visit-index l.visits)
