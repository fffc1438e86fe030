use Rattle.std.proofs.Common.{◌≡◌, take}
use Rattle.distill.specs.Mesh.{arcs_of}
use Rattle.distill.proofs.links.graph_of.Given as goal

abbrev pub invariant-loop-link : goal.invariant-loop-link
invariant-loop-link l = l.arcs.items ≡ arcs_of (take l.link-index l.links)
