use Rattle.pcap_io.proofs.OneReading.{no_fault}
use Rattle.pcap_io.proofs.laws.never_both.Goals as goal

pub returns : goal.returns
returns c = no_fault
