use Rattle.pcapng_in.proofs.ByFormat.{one_capture_fault}
use Rattle.pcapng_in.proofs.laws.one_fault.Goals as goal

pub returns : goal.returns
returns c = one_capture_fault
