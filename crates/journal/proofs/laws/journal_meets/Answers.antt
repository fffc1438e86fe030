use Rattle.journal.proofs.Meets.{meets}
use Rattle.journal.proofs.laws.journal_meets.Goals as goal

pub returns : goal.returns
returns c = meets c.args.setup.now c.parts-parts.ensures.kept
