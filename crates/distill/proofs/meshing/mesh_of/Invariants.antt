use Rattle.std.proofs.Common.{take}
use Rattle.distill.proofs.MeshPairs.{ArePipesInto}
use Rattle.distill.proofs.meshing.mesh_of.Given as goal

abbrev pub invariant-loop-target : goal.invariant-loop-target
invariant-loop-target l = ArePipesInto l.tick_ns l.middle l.border (take l.target-index l.border) l.mesh.items
