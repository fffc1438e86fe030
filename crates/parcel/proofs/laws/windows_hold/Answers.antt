use Rattle.parcel.proofs.WindowLaws.{windows_hold}
use Rattle.parcel.proofs.laws.windows_hold.Goals as goal

pub returns : goal.returns
returns c = windows_hold c.args.setup.now c.parts-parts.ensures.kept
