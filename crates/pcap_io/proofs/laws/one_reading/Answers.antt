use Rattle.pcap_io.proofs.OneReading.{one_reading}
use Rattle.pcap_io.proofs.laws.one_reading.Goals as goal

pub returns : goal.returns
returns c = one_reading
