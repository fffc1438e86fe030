-- What the reader's functions answer, by cases.
use Rattle.std.specs.Prelude.{ℕ, ◌≡◌, List, Option, Some, None, Result, Ok, Err}
use Rattle.changes.specs.declared.split.Change.{Change}
use Rattle.changes.specs.declared.lines.ChangeLine.{ChangeLine}
use Rattle.changes.specs.declared.faults.ChangesFault.{ChangesFault}
use Rattle.changes.specs.Changes.{change_of}
use Rattle.changes.specs.Faults.{change_line_fault}

-- the change of line n, which has no fault after `last`; or the line's fault
abbrev pub ReadsChangeLine : ℕ → ℕ → Option Change → List ℕ → Result Change ChangesFault → Type 0
ReadsChangeLine pipes n last line (Ok change) = (change_of line ≡ Some change) × (change_line_fault pipes n last line ≡ None)
ReadsChangeLine pipes n last line (Err fault) = change_line_fault pipes n last line ≡ Some fault

-- the numbers of a line as those of a change
abbrev pub numbers_as_change : ChangeLine → Change
numbers_as_change l =
    record { tick = l.tick; pipe = l.pipe; bps = l.bps; latency_us = l.latency_us; queue = l.queue; ppm = l.ppm }
