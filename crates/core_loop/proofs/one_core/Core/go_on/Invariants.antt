use Rattle.std.proofs.Common.{◌≡◌, ◌-◌, false}
use Rattle.parcel.specs.Windows.{window_count}
use Rattle.core_loop.specs.CoreView.{windows_of}
use Rattle.core_loop.specs.Turns.{StandAt, NoCountFalls, StillStands, HasTradedAll}
use Rattle.core_loop.proofs.one_core.Core.go_on.Given as goal

abbrev pub invariant-loop-start : goal.invariant-loop-start
invariant-loop-start g l = record {
  keeps : g.P.Ports.keeps l.initial.ports l.ports;
  stand : StandAt g.P.Ports.setup g.P.Ports.core g.P.Ports.posted g.P.Ports.taken l.ports l.self;
  rises : NoCountFalls l.initial.self l.self;
  stands : StillStands l.initial.self l.self;
  works : l.self.failed ≡ false;
  traded : HasTradedAll l.self;
}

abbrev pub decreases-loop-start : goal.decreases-loop-start
decreases-loop-start g l = window_count l.self.setup - windows_of l.self
