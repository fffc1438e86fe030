use Rattle.std.proofs.Common.{◌≡◌, ◌≤◌, length}
use Rattle.std.specs.List.{All}
use Rattle.mn_base.specs.declared.limits.TheConstants.{PACKETS_MAX}
use Rattle.pcap_io.specs.Capture.{IsPacket, IsRecordTime}
use Rattle.pcap_io.specs.Reading.{Splits}
use Rattle.pcap_io.proofs.reading.read_packets.Given as goal

-- the records up to here are the packets so far, and what is left is still to be read
abbrev pub invariant-records : goal.invariant-records
invariant-records l = record {
  splits : Splits l.form l.body l.packets.items l.rest;
  number : l.number ≡ length l.packets.items;
  count : l.number ≤ PACKETS_MAX;
  within : All IsPacket l.packets.items;
  times : All (λ packet. IsRecordTime packet.time_ns) l.packets.items;
}

abbrev pub decreases-records : goal.decreases-records
decreases-records l = length l.rest
