use Rattle.std.proofs.Common.{◌≤◌, take}
use Rattle.distill.specs.Rows.{HasSourceCount}
use Rattle.distill.proofs.meshing.count_sources.Given as goal

abbrev pub invariant-loop-source : goal.invariant-loop-source
invariant-loop-source l = record {
  counted : HasSourceCount l.routes.graph.arcs (take l.source-index l.sources) l.target l.count;
  few : l.count ≤ l.source-index;
}
