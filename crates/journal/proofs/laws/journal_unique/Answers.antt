use Rattle.journal.proofs.Meets.{one_journal}
use Rattle.journal.proofs.laws.journal_unique.Goals as goal

pub returns : goal.returns
returns c = one_journal c.args.setup.now c.parts-parts.ensures.kept
