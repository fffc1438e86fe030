use Rattle.pcapng_in.proofs.ByFormat.{each_capture}
use Rattle.pcapng_in.proofs.laws.each_text_is_answered.Goals as goal

pub returns : goal.returns
returns c = each_capture
