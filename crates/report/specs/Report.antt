-- The text of a report: lines of ASCII, each with a line feed at its end.
use Rattle.std.specs.Prelude.{ℕ, ◌+◌, nat_lt, Bool, List, [], ◌∷◌, ◌++◌, length, filter, codes}
use Rattle.std.specs.List.{flat_map}
use Rattle.std.specs.Fmt.{decimal}
use Rattle.mn_base.specs.declared.causes.Cause.{Cause}
use Rattle.mn_base.specs.declared.causes.Cause.TheVariants.{Loss, Full}
use Rattle.mn_base.specs.declared.causes.Unbound.{Unbound}
use Rattle.mn_base.specs.declared.causes.Unbound.TheVariants.{Short, NotIpv4, NoSource, NoDestination, NoRoute, TooFar}
use Rattle.parcel.specs.declared.counts.PipeCounts.{PipeCounts}
use Rattle.settle.specs.declared.outcome.DropLine.{DropLine}
use Rattle.settle.specs.OutcomeView.{OutcomeView}

-- one line: its text, and a line feed
abbrev pub line : List ℕ → List ℕ
line text = text ++ 10 ∷ []

-- lines of what is numbered from n on
abbrev pub numbered_lines : {X : Type 0} → (ℕ → X → List ℕ) → ℕ → List X → List ℕ
numbered_lines line_of n [] = []
numbered_lines line_of n (x ∷ xs) = line_of n x ++ numbered_lines line_of (n + 1) xs

abbrev pub cause_word : Cause → List ℕ
cause_word Loss = codes "loss"
cause_word Full = codes "full"

abbrev pub unbound_word : Unbound → List ℕ
unbound_word Short = codes "short"
unbound_word NotIpv4 = codes "not-ipv4"
unbound_word NoSource = codes "no-source"
unbound_word NoDestination = codes "no-destination"
unbound_word NoRoute = codes "no-route"
unbound_word TooFar = codes "too-far"

abbrev pub head_line : List ℕ
head_line = line (codes "modelnet report 1")

-- the packets of the trace, and what became of them
abbrev pub packets_line : ℕ → ℕ → ℕ → List ℕ
packets_line left dropped unbound =
    line (codes "packets " ++ decimal (left + dropped + unbound)
    ++ codes " bound " ++ decimal (left + dropped)
    ++ codes " unbound " ++ decimal unbound
    ++ codes " left " ++ decimal left
    ++ codes " dropped " ++ decimal dropped)

-- a pipe, and what became of the visits to it
abbrev pub pipe_line : PipeCounts → List ℕ
pipe_line c =
    line (codes "pipe " ++ decimal c.pipe
    ++ codes " passed " ++ decimal c.passed
    ++ codes " lost " ++ decimal c.lost
    ++ codes " full " ++ decimal c.full)

-- a dropped packet, and the one pipe and cause that dropped it
abbrev pub drop_line : DropLine → List ℕ
drop_line d =
    line (codes "drop " ++ decimal d.packet
    ++ codes " pipe " ++ decimal d.pipe
    ++ codes " tick " ++ decimal d.tick
    ++ codes " cause " ++ cause_word d.cause)

-- a packet that was bound to no route, and why
abbrev pub unbound_line : ℕ × Unbound → List ℕ
unbound_line u = line (codes "unbound " ++ decimal u.0 ++ codes " cause " ++ unbound_word u.1)

-- whether a pipe had at least one visit
abbrev pub has_visit : PipeCounts → Bool
has_visit c = nat_lt 0 (c.passed + c.lost + c.full)

abbrev pub visited_pipes : List PipeCounts → List PipeCounts
visited_pipes counts = filter has_visit counts

-- the report of so many packets that left, of these drop lines, these counts of pipes and these packets that were bound to no route
unfoldable pub report_lines : ℕ → List DropLine → List PipeCounts → List (ℕ × Unbound) → List ℕ
report_lines left dropped pipe_counts unbounds =
    head_line
    ++ packets_line left (length dropped) (length unbounds)
    ++ flat_map pipe_line (visited_pipes pipe_counts)
    ++ flat_map drop_line dropped
    ++ flat_map unbound_line unbounds

-- the report of an outcome and of the packets that were bound to no route
abbrev pub report_text : OutcomeView → List (ℕ × Unbound) → List ℕ
report_text o unbounds = report_lines (length o.leaving) o.dropped o.pipe_counts unbounds
