use Rattle.pcapng_in.proofs.ByFormat.{one_capture_reading}
use Rattle.pcapng_in.proofs.laws.one_reading.Goals as goal

pub returns : goal.returns
returns c = one_capture_reading
