use Rattle.journal.specs.Journal.{journal_of}
use Rattle.journal.proofs.Count.{growing_count}
use Rattle.journal.proofs.Meets.{journal-grows}
use Rattle.journal.proofs.laws.visits_are_few.Goals as goal

pub returns : goal.returns
returns c =
    let S = c.args.setup.now in
    growing_count S c.parts-parts.ensures.kept (journal_of S) (journal-grows S c.parts-parts.ensures.kept)
