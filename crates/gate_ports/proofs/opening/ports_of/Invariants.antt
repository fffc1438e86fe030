use Rattle.std.proofs.Common.{◌≡◌, length}
use Rattle.gate_ports.specs.GatePortsView.{EachAt, IsFresh}
use Rattle.gate_ports.specs.Building.{EachFrom, HasSenders, HasReceivers, Stays, HasLanesOf}
use Rattle.gate_ports.proofs.opening.ports_of.Given as goal

abbrev pub invariant-loop-core : goal.invariant-loop-core
invariant-loop-core l =
    EachFrom l.core (HasSenders l.fn.setup l.fn.setup.cores) l.senders
    × EachFrom l.core (HasReceivers l.fn.setup l.fn.setup.cores) l.receivers
    × (length l.all.items ≡ l.core)
    × EachAt (IsFresh l.fn.setup) l.all.items
    × EachFrom l.core (Stays l.initial.senders) l.senders
    × EachFrom l.core (Stays l.initial.receivers) l.receivers
    × EachAt (HasLanesOf l.initial.senders l.initial.receivers) l.all.items
