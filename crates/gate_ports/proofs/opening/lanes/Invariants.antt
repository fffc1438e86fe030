use Rattle.std.proofs.Common.{◌≡◌, length}
use Rattle.gate_ports.specs.GatePortsView.{EachAt}
use Rattle.gate_ports.specs.Building.{HasSenders, HasReceivers, AreOfOneLane}
use Rattle.gate_ports.proofs.opening.lanes.Given as goal

abbrev pub invariant-loop-to : goal.invariant-loop-to
invariant-loop-to l =
    (length l.senders.items ≡ l.fn.setup.cores)
    × EachAt (HasSenders l.fn.setup l.to) l.senders.items
    × (length l.receivers.items ≡ l.to)
    × EachAt (HasReceivers l.fn.setup l.fn.setup.cores) l.receivers.items
    × AreOfOneLane l.senders.items l.receivers.items
