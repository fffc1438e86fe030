use Rattle.std.proofs.Common.{◌≡◌, [], vec_len}
use Rattle.std.specs.List.{All}
use Rattle.ownership.proofs.incidence.empty_rows.Given as goal

abbrev pub invariant-loop-row : goal.invariant-loop-row
invariant-loop-row l = (vec_len l.rows ≡ l._row) × All (λ row. row.items ≡ []) l.rows.items
