use Rattle.parcel.proofs.Notes.{notes_differ}
use Rattle.parcel.proofs.laws.notes_differ.Goals as goal

pub returns : goal.returns
returns c = notes_differ c.args.setup.now c.parts-parts.ensures.kept
