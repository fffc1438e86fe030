use Rattle.std.proofs.Common.{◌+◌}
use Rattle.gate_ports.specs.Building.{EachBefore, EachFrom, HasSenders, HasReceivers, JoinsRow, Stays}
use Rattle.gate_ports.proofs.opening.lanes_to.Given as goal

abbrev pub invariant-loop-from : goal.invariant-loop-from
invariant-loop-from l =
    EachBefore l.from (HasSenders l.fn.setup (l.fn.to + 1)) l.senders
    × EachFrom l.from (HasSenders l.fn.setup l.fn.to) l.senders
    × HasReceivers l.fn.setup l.from l.fn.to l.receivers
    × EachBefore l.from (JoinsRow l.initial.senders l.receivers) l.senders
    × EachFrom l.from (Stays l.initial.senders) l.senders
