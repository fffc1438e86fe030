use Rattle.std.proofs.Common.{◌≡◌, ◌≢◌, ◌≤◌, ◌+◌, ◌-◌, true, length, ℕ, List}
use Rattle.mn_edge.specs.declared.role.Role.{Role}
use Rattle.mn_edge.specs.Part.{Part, Takes}
use Rattle.mn_edge.proofs.whole.read_all.Given as goal

-- the bytes so far are those that the role lost, and no other role changed
pub record Reading (part : Role → Part) (before : Role → Part) (role : Role) (limit : ℕ) (bytes : List ℕ) : Type 0 where
  pub active : (part role).active ≡ true
  pub taken : Takes bytes (before role) (part role)
  pub few : length bytes ≤ limit
  pub others : (other : Role) → other ≢ role → part other ≡ before other

abbrev pub invariant-pieces : goal.invariant-pieces
invariant-pieces g l = Reading (g.H.Host.part l.host) (g.H.Host.part l.initial.host) l.role l.limit l.bytes.items

abbrev pub decreases-pieces : goal.decreases-pieces
decreases-pieces g l = l.limit + 1 - length l.bytes.items
