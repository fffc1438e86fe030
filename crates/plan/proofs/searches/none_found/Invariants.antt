use Rattle.std.proofs.Common.{◌≡◌, All, None, vec_len}
use Rattle.plan.proofs.searches.none_found.Given as goal

abbrev pub invariant-loop-node : goal.invariant-loop-node
invariant-loop-node l = (vec_len l.found ≡ l._node) × All (λ routes. routes ≡ None) l.found.items
