use Rattle.journal.proofs.Meets.{grows_to_journal}
use Rattle.journal.proofs.laws.grows_to_journal.Goals as goal

pub returns : goal.returns
returns c = grows_to_journal c.args.setup.now c.parts-parts.ensures.kept
