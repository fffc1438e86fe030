use Rattle.std.proofs.Common.{List, ℕ, sym, subst, arith}
use Rattle.mn_base.specs.Lines.{lines_of}
use Rattle.changes.specs.Splits.{AreChangeLines}
use Rattle.changes.proofs.Readings.{second}
use Rattle.changes.proofs.reading.split_second.Goals as goal

pub returns-clause-found : goal.returns-clause-found
returns-clause-found c =
    second c.args.text.now c.args.cores c.args.pipes c.split_line.result.0.now (lines_of c.split_line.result.1.now) c.in-Some.count _
    (record { lines = c.split_line.ensures.lines; says = sym c.in-Some.ensures.value; whole = omega arith })
    (subst (λ (ls : List (List ℕ)). AreChangeLines c.args.pipes ls c.in_ok-changes.changes.items) c.skip_lines.ensures.lines
    c.in_ok-changes.ensures.found)
    c.in_ok-directory.ensures
