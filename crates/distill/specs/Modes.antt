-- How much of a topology is kept.
use Rattle.std.specs.Prelude.{ℕ, ◌≤◌}
use Rattle.mn_base.specs.declared.limits.TheConstants.{FRONTIERS_MAX}
use Rattle.topo.specs.TopologyView.{TopologyView}
use Rattle.walk_out.specs.Parts.{PartsView}
use Rattle.walk_out.specs.WalkOut.{hop_parts, walk_parts, walk_out_parts}
use Rattle.distill.specs.declared.modes.Mode.{Mode}
use Rattle.distill.specs.declared.modes.Mode.TheVariants.{Hop, Walk, End, WalkOut}

-- a number of frontiers is from 1 to as many as a topology may have nodes
abbrev pub IsFrontierCount : ℕ → Type 0
IsFrontierCount n = (1 ≤ n) × (n ≤ FRONTIERS_MAX)

-- the numbers of the mode are in range
abbrev pub IsMode : Mode → Type 0
IsMode Hop = Unit {0}
IsMode (Walk w) = IsFrontierCount w
IsMode End = Unit {0}
IsMode (WalkOut w o) = IsFrontierCount w × IsFrontierCount o

-- kept links, border and middle
abbrev pub parts_of : TopologyView → Mode → PartsView
parts_of t Hop = hop_parts t
parts_of t (Walk w) = walk_parts t w
parts_of t End = walk_parts t 0
parts_of t (WalkOut w o) = walk_out_parts t w o
