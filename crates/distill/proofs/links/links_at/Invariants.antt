use Rattle.std.proofs.Common.{◌≡◌, take}
use Rattle.distill.specs.Mesh.{links_at}
use Rattle.distill.proofs.links.links_at.Given as goal

abbrev pub invariant-loop-number : goal.invariant-loop-number
invariant-loop-number l = l.found.items ≡ links_at l.links (take l.number-index l.numbers)
