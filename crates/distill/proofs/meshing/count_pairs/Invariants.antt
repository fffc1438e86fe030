use Rattle.std.proofs.Common.{◌≤◌, ◌*◌, take}
use Rattle.mn_base.specs.declared.limits.TheConstants.{NODES_MAX}
use Rattle.distill.proofs.MeshPairs.{HasCountInto}
use Rattle.distill.proofs.meshing.count_pairs.Given as goal

abbrev pub invariant-loop-target : goal.invariant-loop-target
invariant-loop-target l = record {
  counted : HasCountInto l.incoming.arcs l.border (take l.target-index l.border) l.count;
  few : l.count ≤ l.target-index * NODES_MAX;
}
