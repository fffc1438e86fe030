use Rattle.std.proofs.Common.{ℕ, ◌≤◌, ◌<◌, ◌-◌, length}
use Rattle.ownership.specs.Owners.{IsFree}
use Rattle.ownership.proofs.turns.next_unowned.Given as goal

-- the pipes so far have owners
abbrev pub invariant-owned : goal.invariant-owned
invariant-owned l = record {
  least : l.from ≤ l.pipe;
  most : l.pipe ≤ length l.owners;
  owned : (q : ℕ) → l.from ≤ q → q < l.pipe → IsFree l.owners q → ⊥;
}

abbrev pub decreases-owned : goal.decreases-owned
decreases-owned l = length l.owners - l.pipe
