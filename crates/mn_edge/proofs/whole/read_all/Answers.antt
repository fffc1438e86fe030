use Rattle.std.proofs.Common.{◌++◌, take, arith}
use Rattle.std.proofs.lemmas.Grind.{common_steps}
use Rattle.mn_edge.proofs.Parts.{Takes-append}
use Rattle.mn_edge.proofs.whole.read_all.Goals as goal

-- the bytes that came last went past the limit
pub returns-then-count-limit-clause-own : goal.returns-then-count-limit-clause-own
returns-then-count-limit-clause-own g c = record {
  bytes = c.pieces.bytes.items ++ take c.in-Ok.count c.read.new.buffer;
  taken = Takes-append _ _ _ _ _ c.pieces.invariant.taken c.in-Ok.ensures.own;
  many = grind (arith, common_steps, c.in-Ok.ensures.within);
}

-- the bytes that came last were taken from the host, and memory to keep them was refused
pub returns-then-is_err-clause-own : goal.returns-then-is_err-clause-own
returns-then-is_err-clause-own g c = record {
  bytes = c.pieces.bytes.items ++ take c.in-Ok.count c.read.new.buffer;
  taken = Takes-append _ _ _ _ _ c.pieces.invariant.taken c.in-Ok.ensures.own;
  few = grind (arith, common_steps, c.in-Ok.ensures.within);
}
