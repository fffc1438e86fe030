use Rattle.journal.proofs.Bare.{cores_do_not_matter}
use Rattle.journal.proofs.laws.cores_do_not_matter.Goals as goal

pub returns : goal.returns
returns c = cores_do_not_matter
