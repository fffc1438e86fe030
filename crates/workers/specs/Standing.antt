-- A core beside its ports, and what becomes of it while it is turned.
use Rattle.std.specs.Prelude.{◌≡◌, true}
use Rattle.core_loop.specs.CoreView.{CoreView}
use Rattle.core_loop.specs.Turns.{StandAt, StillStands}
use Rattle.gate_ports.specs.GatePortsView.{GatePortsView, lane_posted, lane_taken}

-- the ports are of the core's setup and number, and stand where the core's own counts stand
abbrev pub StandsAt : CoreView → GatePortsView → Type 0
StandsAt core ports = StandAt {P = GatePortsView} (λ p. p.setup) (λ p. p.core) lane_posted lane_taken ports core

-- what a worker gives back of a core: it is of the same setup and has the same number, and has failed or stands for whatever bytes it
-- stood for when it was given
pub record ComesBack (given back : CoreView) : Type 0 where
  pub setup : back.setup ≡ given.setup
  pub number : back.number ≡ given.number
  pub stands : StillStands given back

-- the same of a core that is turned, and one that has failed stays so
pub record GoesOn (c d : CoreView) : Type 0 where
  pub comes : ComesBack c d
  pub fails : c.failed ≡ true → d.failed ≡ true
