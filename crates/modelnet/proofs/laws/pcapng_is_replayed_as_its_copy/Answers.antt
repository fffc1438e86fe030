use Rattle.modelnet.proofs.Copies.{pcapng_is_replayed_as_its_copy}
use Rattle.modelnet.proofs.laws.pcapng_is_replayed_as_its_copy.Goals as goal

pub returns : goal.returns
returns c = pcapng_is_replayed_as_its_copy
