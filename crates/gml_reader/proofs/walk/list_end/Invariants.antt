use Rattle.std.proofs.Common.{◌≡◌, ◌+◌, ◌≤◌, drop}
use Rattle.gml_reader.specs.Walk.{closing}
use Rattle.gml_reader.proofs.walk.list_end.Given as goal

abbrev pub invariant-loop-at : goal.invariant-loop-at
invariant-loop-at l = record {
  so_far : l.at + closing (drop l.at l.tokens) l.depth ≡ closing l.tokens 0;
  few : l.depth ≤ l.at;
}
