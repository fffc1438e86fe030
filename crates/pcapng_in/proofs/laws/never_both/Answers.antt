use Rattle.pcapng_in.proofs.ByFormat.{never_capture_both}
use Rattle.pcapng_in.proofs.laws.never_both.Goals as goal

pub returns : goal.returns
returns c = never_capture_both
