use Rattle.mn_base.specs.declared.limits.TheConstants.{LINK_TYPE_RAW}
use Rattle.pcap_io.specs.Writing.{header_text}
use Rattle.workload.proofs.Packets.{ArePacketsBelow}
use Rattle.workload.proofs.trace.trace_text.Given as goal

abbrev pub invariant-loop : goal.invariant-loop
invariant-loop l = ArePacketsBelow l.initial.draws l.draws l.counter l.time_ns (header_text LINK_TYPE_RAW) l.text.items
