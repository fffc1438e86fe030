use Rattle.std.proofs.Common.{◌≡◌, ◌-◌, false}
use Rattle.world.specs.Worlds.{WorldStillStands}
use Rattle.world.specs.Steps.{total_steps, most_steps}
use Rattle.world.proofs.whole.World.run_round_robin.Given as goal

abbrev pub invariant-loop : goal.invariant-loop
invariant-loop l = record {
  setup : l.self.setup ≡ l.initial.self.setup;
  stands : WorldStillStands l.initial.self l.self;
  works : l.self.failed ≡ false;
}

abbrev pub decreases-loop : goal.decreases-loop
decreases-loop l = most_steps l.self.setup - total_steps l.self
