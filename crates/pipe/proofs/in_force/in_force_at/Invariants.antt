use Rattle.std.proofs.Common.{◌≡◌, ℕ, ◌-◌, ◌≤◌, length, drop}
use Rattle.pipe.specs.Params.{last_params}
use Rattle.pipe.proofs.in_force.in_force_at.Given as goal

abbrev pub invariant-loop-now : goal.invariant-loop-now
invariant-loop-now l = record {
  within : l.now.reached ≤ length l.changes;
  ahead : (later : ℕ) → l.tick ≤ later
      → last_params later l.now.params (drop l.now.reached l.changes)
      ≡ last_params later l.fn.before.params (drop l.fn.before.reached l.changes);
}

abbrev pub decreases-loop-now : goal.decreases-loop-now
decreases-loop-now l = length l.changes - l.now.reached
