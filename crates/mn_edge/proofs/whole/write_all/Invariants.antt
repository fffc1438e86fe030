use Rattle.std.proofs.Common.{◌≡◌, ◌≢◌, ◌++◌, true, length, ℕ, List}
use Rattle.mn_edge.specs.declared.role.Role.{Role}
use Rattle.mn_edge.specs.Part.{Part, Adds}
use Rattle.mn_edge.proofs.whole.write_all.Given as goal

-- a front of the text was written, the rest comes, and no other role changed
pub record Writing (part : Role → Part) (before : Role → Part) (role : Role) (text rest : List ℕ) : Type 0 where
  pub active : (part role).active ≡ true
  pub front : List ℕ
  pub split : text ≡ front ++ rest
  pub added : Adds front (before role) (part role)
  pub others : (other : Role) → other ≢ role → part other ≡ before other

abbrev pub invariant-pieces : goal.invariant-pieces
invariant-pieces g l = Writing (g.H.Host.part l.host) (g.H.Host.part l.initial.host) l.role l.text l.rest

abbrev pub decreases-pieces : goal.decreases-pieces
decreases-pieces g l = length l.rest
