use Rattle.pcapng_in.proofs.ByFormat.{same_as_pcap}
use Rattle.pcapng_in.proofs.laws.says_the_same_as_pcap.Goals as goal

pub returns : goal.returns
returns c = same_as_pcap
