use Rattle.pcap_io.proofs.OneReading.{one_fault}
use Rattle.pcap_io.proofs.laws.one_fault.Goals as goal

pub returns : goal.returns
returns c = one_fault
