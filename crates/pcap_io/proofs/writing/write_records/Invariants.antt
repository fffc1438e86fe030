use Rattle.std.proofs.Common.{◌++◌, take}
use Rattle.std.specs.List.{flat_map}
use Rattle.pcap_io.specs.Writing.{record_text}
use Rattle.pcap_io.proofs.Blocks.{Writing}
use Rattle.pcap_io.proofs.writing.write_records.Given as goal

abbrev pub invariant-packets : goal.invariant-packets
invariant-packets g l =
    Writing (g.H.Host.part l.host) (g.H.Host.part l.initial.host) l.role
    (l.initial.block ++ flat_map record_text (take l.packet-index l.packets)) l.block
