use Rattle.std.proofs.Common.{◌≡◌, map}
use Rattle.report.specs.Traces.{packet_left}
use Rattle.report.proofs.traces.out_trace.Given as goal

abbrev pub invariant-loop-left : goal.invariant-loop-left
invariant-loop-left l = l.packets.items ≡ map (packet_left l.setup) l.yielded
