use Rattle.std.proofs.Common.{take}
use Rattle.distill.specs.Rows.{IsRow}
use Rattle.distill.proofs.meshing.row_of.Given as goal

abbrev pub invariant-loop-source : goal.invariant-loop-source
invariant-loop-source l = IsRow l.tick_ns l.middle (take l.source-index l.sources) l.target l.row.items
