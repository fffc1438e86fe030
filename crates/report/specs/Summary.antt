-- The text of what a generated input came to: four lines, of which the third is that of the report.
use Rattle.std.specs.Prelude.{ℕ, List, ◌++◌, length, fold, max, codes}
use Rattle.std.specs.Fmt.{decimal}
use Rattle.mn_base.specs.declared.causes.Unbound.{Unbound}
use Rattle.settle.specs.declared.outcome.Leaving.{Leaving}
use Rattle.settle.specs.OutcomeView.{OutcomeView}
use Rattle.report.specs.declared.summary.Generated.{Generated}
use Rattle.report.specs.Report.{line, packets_line}

-- the greatest tick at which a packet left, or 0
abbrev pub last_leaving_tick : List Leaving → ℕ
last_leaving_tick leaving = fold (λ tick left. max tick left.tick) 0 leaving

-- the number that the input stands for, and how many packets it has
abbrev pub number_line : ℕ → ℕ → List ℕ
number_line number packets = line (codes "workload " ++ decimal number ++ codes " packets " ++ decimal packets)

-- the lengths of its two texts, in bytes
abbrev pub lengths_line : ℕ → ℕ → List ℕ
lengths_line gml trace = line (codes "gml " ++ decimal gml ++ codes " trace " ++ decimal trace)

abbrev pub last_tick_line : ℕ → List ℕ
last_tick_line tick = line (codes "last-tick " ++ decimal tick)

-- the summary of a generated input, of its outcome and of the packets that were bound to no route
unfoldable pub summary_text : Generated → OutcomeView → List (ℕ × Unbound) → List ℕ
summary_text input o unbounds =
    number_line input.number input.packets
    ++ lengths_line input.gml_len input.trace_len
    ++ packets_line (length o.leaving) (length o.dropped) (length unbounds)
    ++ last_tick_line (last_leaving_tick o.leaving)
