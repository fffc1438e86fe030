use Rattle.std.proofs.Common.{◌≡◌, false, take}
use Rattle.world.specs.Worlds.{WorldStillStands, TurnedBy}
use Rattle.world.proofs.whole.World.run_order.Given as goal

abbrev pub invariant-loop-core : goal.invariant-loop-core
invariant-loop-core l = record {
  setup : l.self.setup ≡ l.initial.self.setup;
  turned : TurnedBy (take l.core-index l.order) l.initial.self l.self;
  stands : WorldStillStands l.initial.self l.self;
  works : l.self.failed ≡ false;
}
