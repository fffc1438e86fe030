use Rattle.modelnet.proofs.Sound.{one_outcome}
use Rattle.modelnet.proofs.laws.words_and_bytes_have_one_outcome.Goals as goal

pub returns : goal.returns
returns c = one_outcome
