use Rattle.pcap_io.proofs.ReadsBack.{reads_back}
use Rattle.pcap_io.proofs.laws.written_reads_back.Goals as goal

pub returns : goal.returns
returns c = reads_back
