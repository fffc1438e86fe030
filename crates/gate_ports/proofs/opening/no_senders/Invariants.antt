use Rattle.std.proofs.Common.{◌≡◌, [], length}
use Rattle.gate_ports.specs.GatePortsView.{EachAt}
use Rattle.gate_ports.proofs.opening.no_senders.Given as goal

abbrev pub invariant-loop-core : goal.invariant-loop-core
invariant-loop-core l = (length l.all.items ≡ l._core) × EachAt (λ core row. row.items ≡ []) l.all.items
