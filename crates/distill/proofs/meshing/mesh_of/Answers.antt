use Rattle.std.proofs.Common.{◌++◌, List, ap, ◌∙◌, rules}
use Rattle.std.proofs.lemmas.Fn.{always_returns_same}
use Rattle.distill.specs.declared.pipes.DistilledPipe.{DistilledPipe}
use Rattle.distill.proofs.MeshPairs.{pipes_next, whole_mesh}
use Rattle.distill.proofs.SortedMesh.{from_and_to, sorted_mesh}
use Rattle.distill.proofs.meshing.mesh_of.Goals as goal

-- The mesh has the row of one destination more, which stands nowhere before.
pub loop-target-preserved : goal.loop-target-preserved
loop-target-preserved c =
    pipes_next c.loop-target.target-index _ c.requires.distinct c.loop-target-test.true c.loop-target.invariant c.in_ok-row.ensures
    (c.in_ok-extend_from_slice.ensures.items ∙ ap (λ (l : List DistilledPipe). c.loop-target.mesh.items ++ l) c.deref.ensures.value)

-- After the last destination the mesh is whole, and sorting keeps its pipes.
pub returns : goal.returns
returns c =
    sorted_mesh c.args.tick_ns c.args.middle.now c.args.border.now c.loop-target.mesh.items _
    (whole_mesh c.args.tick_ns c.args.middle.now c.args.border.now c.loop-target.target-index c.loop-target.mesh.items
    c.loop-target-test.false c.loop-target.invariant)
    c.sort_by_key.ensures.permutation
    (c.in_ok-sort_by_key.ensures.sorted from_and_to (always_returns_same _ _ _ (λ a r f k. search rules)))
