use Rattle.pcap_io.proofs.Answered.{is_answered}
use Rattle.pcap_io.proofs.laws.each_text_is_answered.Goals as goal

pub returns : goal.returns
returns c = is_answered
