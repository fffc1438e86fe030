-- What follows of the definitions of the modes.
use Rattle.std.specs.Prelude.{◌≡◌, ℕ, ◌≤◌, []}
use Rattle.mn_base.specs.declared.limits.TheConstants.{FRONTIERS_MAX}
use Rattle.topo.specs.TopologyView.{TopologyView}
use Rattle.frontier.specs.Frontiers.{frontiers_of}
use Rattle.walk_out.specs.WalkOut.{walk_parts, walk_out_parts, core_of}

-- where the core is empty, walk-out is walk-in
abbrev pub IsWalkInWithoutCore : Type 0
IsWalkInWithoutCore = (t : TopologyView) (w o : ℕ) → w ≤ FRONTIERS_MAX → core_of (frontiers_of t FRONTIERS_MAX) w o ≡ []
    → walk_out_parts t w o ≡ walk_parts t w
