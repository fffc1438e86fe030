use Rattle.ownership.specs.Turning.{row_lists}
use Rattle.ownership.proofs.Rows.{HasRows, EndBefore}
use Rattle.ownership.proofs.incidence.Incidence.new.Given as goal

-- the pipes so far stand in the rows of their ends
abbrev pub invariant-loop-number : goal.invariant-loop-number
invariant-loop-number l = HasRows l.distilled.nodes (EndBefore l.distilled.pipes l.number) (row_lists l.rows.items)
